use Rattle.cm_text.proofs.Heads.{four_first, four_none}
use Rattle.cm_text.proofs.fields.Fields.hex4.Goals as goal

pub returns-in_err-word : goal.returns-in_err-word
returns-in_err-word c = rw c.from_residual.ensures (four_none _ c.in_err-word.ensures)

pub returns : goal.returns
returns c = rw c.read_hex4.ensures.value (four_first _ _ _ c.in_ok-word.ensures)
