use Rattle.cm_text.proofs.Heads.{eight_near}
use Rattle.cm_text.proofs.fields.Fields.hex8_or_stay.Goals as goal

pub returns-clause-value : goal.returns-clause-value
returns-clause-value c =
    let cut = c.in-Some-near_field in
    rw (c.in-Some.is, c.if-self-eq32.true) (eight_near cut.word.now c.in-Some.bytes.now cut.rest.now c.in-Some-read_hex8.n c.in-Some-read_hex8.ensures.value cut.ensures)
