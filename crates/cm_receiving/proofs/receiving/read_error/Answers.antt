use Rattle.std.proofs.Common.{IfNone, subst, sym}
use Rattle.cm_can.specs.declared.can_error.CanError.{CanError}
use Rattle.cm_receiving.specs.Places.{IsErrorIn}
use Rattle.cm_can.specs.declared.format.Format.{Format}
use Rattle.cm_receiving.proofs.receiving.read_error.Goals as goal

pub returns-in-CanUtils-clause-none : goal.returns-in-CanUtils-clause-none
returns-in-CanUtils-clause-none c =
    subst (λ (format : Format). IfNone c.read_error_line.result ((e : CanError) → IsErrorIn format c.args.line.now e → ⊥))
    (sym c.in-CanUtils.is) c.read_error_line.ensures.none
