use Rattle.cm_text.proofs.Digits.{two_weighs}
use Rattle.cm_text.proofs.hex.pair.Goals as goal

pub returns-clause-value : goal.returns-clause-value
returns-clause-value c = two_weighs c.args.a c.args.b c.worth.result c.worth-2.result c.worth.ensures.value c.worth-2.ensures.value
