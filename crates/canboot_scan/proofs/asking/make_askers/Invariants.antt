use Rattle.std.proofs.Common.{◌≡◌, ◌++◌, length, vec_len}
use Rattle.std.specs.Vec.Iter.{into_iter_items}
use Rattle.canboot_scan.proofs.asking.make_askers.Given as goal

-- one worker for each writer so far
abbrev pub invariant-loop-writer : goal.invariant-loop-writer
invariant-loop-writer g l = record {
  can : (goal.iterator-loop-writer g).can_next l.writer-iterator;
  ends : (goal.iterator-loop-writer g).is_finite l.writer-iterator;
  left : l.yielded ++ into_iter_items l.writer-iterator ≡ l.fn.written.items;
  askers : vec_len l.askers ≡ length l.yielded;
}
