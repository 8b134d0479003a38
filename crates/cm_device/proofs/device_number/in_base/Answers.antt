use Rattle.std.proofs.Common.{arith}
use Rattle.cm_device.proofs.Numbers.{digits_utf8}
use Rattle.cm_device.proofs.device_number.in_base.Goals as goal

pub returns-in-Err-clause-none : goal.returns-in-Err-clause-none
returns-in-Err-clause-none c = λ n is.
    c.in-Err.ensures.cases.0 (digits_utf8 c.args.base c.args.digits.now (omega (arith, c.requires)) is.numeral.1)
