use Rattle.std.proofs.Common.{arith, refl}
use Rattle.cm_device.proofs.DeviceFiles.{none_stands}
use Rattle.cm_device.proofs.device_file.given_item.Goals as goal

pub returns-clause-none : goal.returns-clause-none
returns-clause-none c = λ file all.
    none_stands file c.args.items.now c.args.name.now c.args.key.now (λ k d low. c.loop-item.invariant k d (omega (arith, low, c.loop-item-test.false))) all

pub returns-then-is_given-clause-item : goal.returns-then-is_given-clause-item
returns-then-is_given-clause-item c = λ file all.
    let given = c.if-is_given.ensures.given refl in
    (all c.loop-item.item-index _ c.loop-item-test.true, (given.0, given.1.0))
