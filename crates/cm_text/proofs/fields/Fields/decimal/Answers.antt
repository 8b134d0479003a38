use Rattle.std.proofs.Common.{arith}
use Rattle.cm_text.proofs.Heads.{decimal_first}
use Rattle.cm_text.proofs.fields.Fields.decimal.Goals as goal

pub returns-clause-value : goal.returns-clause-value
returns-clause-value c =
    let read = c.in-Some-near_decimal.ensures in
    rw (c.in-Some.is, c.if-self-eq32.true) (decimal_first c.args.most c.in-Some-near_decimal.n c.in-Some.bytes.now c.in-Some-near_decimal.rest.now (omega arith) read.1 read.0)
