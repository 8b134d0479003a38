use Rattle.std.proofs.Common.{◌≡◌, ◌+◌, ◌++◌, length, vec_len}
use Rattle.std.specs.Vec.Iter.{into_iter_items}
use Rattle.cm_crew.proofs.workers.join_workers.Given as goal

abbrev pub invariant-loop-handle : goal.invariant-loop-handle
invariant-loop-handle g l = record {
  can : (goal.iterator-loop-handle g).can_next l.handle-iterator;
  ends : (goal.iterator-loop-handle g).is_finite l.handle-iterator;
  left : l.yielded ++ into_iter_items l.handle-iterator ≡ l.fn.handles.items;
  seats : vec_len l.seats ≡ vec_len l.initial.seats + length l.yielded;
  outlets : vec_len l.outlets ≡ vec_len l.initial.outlets + length l.yielded;
}
