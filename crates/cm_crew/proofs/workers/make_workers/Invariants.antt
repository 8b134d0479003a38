use Rattle.std.proofs.Common.{◌≡◌, ◌+◌, ◌++◌, length, vec_len}
use Rattle.std.specs.Prelude.{All}
use Rattle.std.specs.Vec.Iter.{into_iter_items}
use Rattle.cm_crew.proofs.Fresh.{IsFresh}
use Rattle.cm_crew.proofs.workers.make_workers.Given as goal

-- one worker for each writer so far, each with a seat; the seats that are left have made no call
abbrev pub invariant-loop-writer : goal.invariant-loop-writer
invariant-loop-writer g l = record {
  can : (goal.iterator-loop-writer g).can_next l.writer-iterator;
  ends : (goal.iterator-loop-writer g).is_finite l.writer-iterator;
  fresh : All IsFresh l.seats.items;
  left : l.yielded ++ into_iter_items l.writer-iterator ≡ l.fn.written.items;
  workers : vec_len l.made.workers ≡ length l.yielded;
  hears : vec_len l.made.hears ≡ length l.yielded;
  jobs : vec_len l.made.jobs ≡ length l.yielded;
  seats : vec_len l.seats + length l.yielded ≡ vec_len l.fn.seats;
}
