use Rattle.cm_can.proofs.SameText.{same_text}
use Rattle.cm_can.proofs.lines.one_frame.Goals as goal

pub returns : goal.returns
returns c = same_text
