use Rattle.std.proofs.lemmas.List.{get_or-replicate}
use Rattle.cm_telling.specs.Tried.{no_boots}
use Rattle.cm_telling.specs.declared.tried.Boots.{Boots}
use Rattle.cm_telling.proofs.tried.Tried.new.Goals as goal

pub returns : goal.returns
returns c = λ i low high. get_or-replicate {A = Boots} 128 i no_boots no_boots high
