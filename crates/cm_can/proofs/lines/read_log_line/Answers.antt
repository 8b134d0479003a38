use Rattle.std.proofs.Common.{ℕ, List, subst}
use Rattle.cm_can.specs.Lines.{IsFrameText}
use Rattle.cm_can.proofs.lines.read_log_line.Goals as goal

pub returns-in_default-clause-none : goal.returns-in_default-clause-none
returns-in_default-clause-none c = λ f small line. c.in_default.ensures.none line.0 line.1

pub returns-in_default-read_frame-clause-none : goal.returns-in_default-read_frame-clause-none
returns-in_default-read_frame-clause-none c = λ f small line.
    c.in_default-read_frame.ensures.none f small (subst (λ (text : List ℕ). IsFrameText text f) (c.in-Some.ensures.only line.0 line.1) line.2)
