use Rattle.std.proofs.Common.{◌≡◌, ◌+◌, IfNone, None}
use Rattle.cm_bus.specs.Patience.{next_part}
use Rattle.cm_bus.proofs.live_port.LivePortPort.hear.Given as goal

-- a wait that was over stays over
abbrev pub invariant-loop-part_ms : goal.invariant-loop-part_ms
invariant-loop-part_ms g l =
    (l.self.outlet ≡ l.initial.self.outlet) × IfNone (next_part l.initial.self.patience) (next_part l.self.patience ≡ None)

-- each part that ends takes of what is left, or of what may end late
abbrev pub decreases-loop-part_ms : goal.decreases-loop-part_ms
decreases-loop-part_ms g l = l.self.patience.left_ms + l.self.patience.pardons
