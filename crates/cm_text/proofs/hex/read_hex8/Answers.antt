use Rattle.std.proofs.Common.{◌^◌, ◌<◌, ◌∙◌, arith}
use Rattle.cm_text.specs.Hex.{hex_eight, eight_of}
use Rattle.cm_text.proofs.Digits.{eight_digits, hex_eight_exact, weighed_read}
use Rattle.cm_text.proofs.Fronts.{exact_says}
use Rattle.cm_text.proofs.hex.read_hex8.Goals as goal

pub returns-clause-value : goal.returns-clause-value
returns-clause-value c = c.ok.ensures.value ∙ weighed_read 8 (2 ^ 32) hex_eight_exact eight_digits (omega arith) c.args.word.now c.number.result c.try_from.result c.try_from.ensures c.number.ensures

pub returns-clause-exact : goal.returns-clause-exact
returns-clause-exact c = exact_says hex_eight eight_of (λ n. n < 2 ^ 32) hex_eight_exact c.args.word.now _ (returns-clause-value c)
