use Rattle.cm_device.proofs.Added.{type_of}
use Rattle.cm_device.proofs.settings_values.type_beside.Goals as goal

pub returns : goal.returns
returns c = λ file all.
    type_of file c.args.item.now.section.now c.in_ok-value_beside.field-0.now c.plain_number.result (c.in_ok-value_beside.ensures file all) c.plain_number.ensures.number
