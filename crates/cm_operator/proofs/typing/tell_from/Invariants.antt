use Rattle.std.proofs.Common.{◌≤◌, ◌*◌}
use Rattle.cm_receiving.specs.Cutting.{IsLeft}
use Rattle.cm_operator.proofs.typing.tell_from.Given as goal

abbrev pub invariant-loop-turn : goal.invariant-loop-turn
invariant-loop-turn g l = IsLeft g.B.BusName.typed l.cutter (g.T.Read.remaining l.input) × (l.cutter ≤ 256 * l._turn)
