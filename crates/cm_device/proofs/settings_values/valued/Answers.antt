use Rattle.std.proofs.Common.{sym, ◌∙◌}
use Rattle.cm_device.proofs.Added.{typed}
use Rattle.cm_device.proofs.settings_values.valued.Goals as goal

pub returns-in-Ok-clause-typed : goal.returns-in-Ok-clause-typed
returns-in-Ok-clause-typed c = λ file all.
    let value = c.args.value.now in
    typed file value.described.section.now value.item.value.now c.args.node c.in-Some.data_type c.in-Some-size_of.size c.in-Ok.number
    (c.in-Some.ensures file all) (sym c.size_of.ensures.value ∙ c.in-Some-size_of.is) c.in-Ok.ensures
