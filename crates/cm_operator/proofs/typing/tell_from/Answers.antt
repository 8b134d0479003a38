use Rattle.std.proofs.Common.{ℕ, take, sym, subst, arith, length-take}
use Rattle.cm_receiving.specs.Cutting.{IsLeft}
use Rattle.cm_receiving.proofs.Lines.{come_read, left_read}
use Rattle.cm_operator.proofs.typing.tell_from.Goals as goal

pub tell_bytes-requires-clause-next : goal.tell_bytes-requires-clause-next
tell_bytes-requires-clause-next g c =
    come_read g.B.BusName.typed c.loop-turn.cutter (g.T.Read.remaining c.loop-turn.input) (g.T.Read.remaining c.read.new.self) (take c.in-Ok.count c.read.new.buf) c.loop-turn.invariant.0 c.in-Ok.ensures.bytes.0

pub loop-turn-preserved : goal.loop-turn-preserved
loop-turn-preserved g c = (
  subst (λ (k : ℕ). IsLeft g.B.BusName.typed k (g.T.Read.remaining c.read.new.self)) (sym c.tell_bytes.ensures)
      (left_read g.B.BusName.typed c.loop-turn.cutter (g.T.Read.remaining c.loop-turn.input) (g.T.Read.remaining c.read.new.self) (take c.in-Ok.count c.read.new.buf) c.loop-turn.invariant.0 c.in-Ok.ensures.bytes.0),
  omega (arith, c.loop-turn.invariant.1, c.tell_bytes.ensures, length-take c.in-Ok.count c.read.new.buf, c.in-Ok.ensures.bound, c.read.auto.buf),
)
