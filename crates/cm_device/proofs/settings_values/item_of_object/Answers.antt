use Rattle.std.proofs.Common.{refl}
use Rattle.cm_device.proofs.settings_values.item_of_object.Goals as goal

pub returns-then-is_object : goal.returns-then-is_object
returns-then-is_object c = λ file all.
    (all c.loop-item.item-index _ c.loop-item-test.true, (c.if-is_object.ensures refl, rw c.as_bytes.ensures.value at (c.if-is_same.ensures.same refl)))
