use Rattle.std.proofs.Common.{◌≤◌, arith}
use Rattle.std.specs.Prelude.{decimal}
use Rattle.cm_text.specs.Decimal.{dec_of}
use Rattle.cm_text.proofs.Decimals.{dec_exact}
use Rattle.cm_text.proofs.Fronts.{exact_says}
use Rattle.cm_text.proofs.decimal.read_decimal.Goals as goal

pub returns-clause-exact : goal.returns-clause-exact
returns-clause-exact c = exact_says decimal (dec_of c.args.most) (λ n. n ≤ c.args.most) (dec_exact c.args.most (omega arith)) c.args.word.now c.decimal_value.result c.decimal_value.ensures.value
