use Rattle.std.proofs.Common.{◌^◌, ◌<◌, ◌∙◌, arith}
use Rattle.cm_text.specs.Hex.{hex_two, two_of}
use Rattle.cm_text.proofs.Digits.{two_digits, hex_two_exact, weighed_read}
use Rattle.cm_text.proofs.Fronts.{exact_says}
use Rattle.cm_text.proofs.hex.read_hex2.Goals as goal

pub returns-clause-value : goal.returns-clause-value
returns-clause-value c = c.ok.ensures.value ∙ weighed_read 2 (2 ^ 8) hex_two_exact two_digits (omega arith) c.args.word.now c.number.result c.try_from.result c.try_from.ensures c.number.ensures

pub returns-clause-exact : goal.returns-clause-exact
returns-clause-exact c = exact_says hex_two two_of (λ n. n < 2 ^ 8) hex_two_exact c.args.word.now _ (returns-clause-value c)
