use Rattle.cm_text.proofs.Digits.{four_weighs}
use Rattle.cm_text.proofs.hex.quad.Goals as goal

pub returns-clause-value : goal.returns-clause-value
returns-clause-value c = four_weighs c.args.a c.args.b c.args.c c.args.d c.pair.result c.pair-2.result c.pair.ensures.value c.pair-2.ensures.value
