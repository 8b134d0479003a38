use Rattle.std.proofs.Common.{◌≡◌, ◌≤◌, ◌*◌}
use Rattle.cm_receiving.specs.Cutting.{IsLeft}
use Rattle.cm_receiving.proofs.receiving.receive_from.Given as goal

abbrev pub invariant-loop-turn : goal.invariant-loop-turn
invariant-loop-turn g l = IsLeft g.B.BusName.text l.cutter (g.I.Read.remaining l.input) × (l.cutter ≤ 4096 * l._turn) × (l.read ≡ l.cutter)
