use Rattle.std.proofs.Common.{◌≡◌, ◌++◌, length, vec_len}
use Rattle.std.specs.Vec.Iter.{into_iter_items}
use Rattle.cm_bus.specs.Sent.{AreWrittenFrom}
use Rattle.cm_bus.proofs.caused_outlet.outlets_of.Given as goal

-- the outlets so far, in their order, with what was written by them
abbrev pub invariant-loop-outlet : goal.invariant-loop-outlet
invariant-loop-outlet g l = record {
  can : (goal.iterator-loop-outlet g).can_next l.outlet-iterator;
  ends : (goal.iterator-loop-outlet g).is_finite l.outlet-iterator;
  left : l.yielded ++ into_iter_items l.outlet-iterator ≡ l.fn.outlets.items;
  count : vec_len l.plain ≡ length l.yielded;
  written : AreWrittenFrom g.F.Caused.causes g.W.Write.contents g.B.BusName.format g.B.BusName.had 0 l.plain.items;
}
