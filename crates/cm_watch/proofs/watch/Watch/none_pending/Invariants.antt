use Rattle.std.proofs.Common.{◌≡◌, ◌-◌, []}
use Rattle.std.specs.List.{filter, range_with_len}
use Rattle.cm_watch.specs.Watches.{is_pending_by}
use Rattle.cm_watch.proofs.watch.Watch.none_pending.Given as goal

-- none of the nodes below is it still
abbrev pub invariant-loop-number : goal.invariant-loop-number
invariant-loop-number l = filter (is_pending_by l.self.slaves l.network l.pending) (range_with_len 1 (l.number - 1)) ≡ []
