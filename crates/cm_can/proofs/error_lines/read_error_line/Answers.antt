use Rattle.std.proofs.Common.{ℕ, List, subst}
use Rattle.cm_can.specs.ErrorLines.{IsErrorText}
use Rattle.cm_can.proofs.error_lines.read_error_line.Goals as goal

pub returns-in_default-clause-none : goal.returns-in_default-clause-none
returns-in_default-clause-none c = λ e line. c.in_default.ensures.none line.0 line.1

pub returns-in_default-read_error-clause-none : goal.returns-in_default-read_error-clause-none
returns-in_default-read_error-clause-none c = λ e line.
    c.in_default-read_error.ensures.none e (subst (λ (text : List ℕ). IsErrorText text e) (c.in-Some.ensures.only line.0 line.1) line.2)
