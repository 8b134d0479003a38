use Rattle.cm_text.proofs.Heads.{two_first, two_none}
use Rattle.cm_text.proofs.fields.Fields.hex2.Goals as goal

pub returns-in_err-word : goal.returns-in_err-word
returns-in_err-word c = rw c.from_residual.ensures (two_none _ c.in_err-word.ensures)

pub returns : goal.returns
returns c = rw c.read_hex2.ensures.value (two_first _ _ _ c.in_ok-word.ensures)
