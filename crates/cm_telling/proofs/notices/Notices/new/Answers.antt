use Rattle.std.proofs.Common.{◌∙◌, Bool, false}
use Rattle.std.proofs.lemmas.List.{get_or-replicate}
use Rattle.cm_telling.specs.Limiting.{none_told}
use Rattle.cm_telling.specs.declared.limit.Limit.{Limit}
use Rattle.cm_telling.proofs.notices.Notices.new.Goals as goal

pub returns-clause-limits : goal.returns-clause-limits
returns-clause-limits c = λ i inside. get_or-replicate {A = Limit} 129 i c.new.result none_told inside ∙ c.new.ensures.value

pub returns-clause-strangers : goal.returns-clause-strangers
returns-clause-strangers c = λ i inside. get_or-replicate {A = Bool} 128 i false false inside
