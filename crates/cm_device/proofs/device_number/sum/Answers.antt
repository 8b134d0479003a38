use Rattle.std.proofs.Common.{ℕ}
use Rattle.cm_device.specs.DeviceFiles.{AreSummed}
use Rattle.cm_device.proofs.Numbers.{if_none}
use Rattle.cm_device.proofs.device_number.sum.Goals as goal

pub returns-in_err-other-clause-none : goal.returns-in_err-other-clause-none
returns-in_err-other-clause-none c =
    if_none c.from_residual.result ((n : ℕ) → AreSummed c.args.node c.args.first.now c.args.second.now n → ⊥) (λ n is. c.in_err-other.ensures.none is.plain is.which)
