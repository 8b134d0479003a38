use Rattle.cm_text.proofs.Digits.{weights, digit_weighs}
use Rattle.cm_text.proofs.hex.worth.Goals as goal

pub returns-clause-value : goal.returns-clause-value
unfolding weights
returns-clause-value c = (digit_weighs c.args.byte c.ranges.byte.fits).0

pub returns-clause-small : goal.returns-clause-small
unfolding weights
returns-clause-small c = (digit_weighs c.args.byte c.ranges.byte.fits).1
