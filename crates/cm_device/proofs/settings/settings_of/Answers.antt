use Rattle.std.proofs.Common.{subst, sym}
use Rattle.std.specs.List.{All}
use Rattle.std.proofs.lemmas.List.Elements.{All-take}
use Rattle.std.proofs.lemmas.List.Sorted.{All-permutation}
use Rattle.cm_device.specs.FileValues.{IsSetting}
use Rattle.cm_device.specs.declared.settings.Setting.{Setting}
use Rattle.cm_device.proofs.settings.settings_of.Goals as goal

pub returns-clause-all : goal.returns-clause-all
returns-clause-all c = λ file all.
    let P : Setting → Type 0 = λ s. IsSetting file c.args.node s.write in
    subst (All P) (sym c.truncate.ensures.items)
    (All-take P _ c.sort_by_key.new.self.items
    (All-permutation P c.in_ok-settings.field-0.settings.items c.sort_by_key.new.self.items c.in_ok-sort_by_key.ensures.permutation (c.in_ok-settings.ensures file all)))
