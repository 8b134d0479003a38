use Rattle.std.proofs.Common.{◌≡◌, ℕ, ◌<◌, ◌≤◌}
use Rattle.cm_watched.specs.KeptOfSlaves.{slave_after}
use Rattle.cm_watch.specs.Watches.{kept_at}
use Rattle.cm_watch.proofs.taking.take_each.Given as goal

-- the slaves below the node are as after the moment, the others as before it
abbrev pub invariant-loop-number : goal.invariant-loop-number
invariant-loop-number l = record {
  done : (i : ℕ) → 1 ≤ i → i < l.number → kept_at l.slaves i ≡ slave_after l.network l.settings l.now l.moment i (kept_at l.initial.slaves i);
  left : (i : ℕ) → l.number ≤ i → kept_at l.slaves i ≡ kept_at l.initial.slaves i;
}
