use Rattle.std.proofs.Common.{◌≡◌, ◌++◌, ◌-◌, map}
use Rattle.std.specs.List.{filter, range_with_len}
use Rattle.cm_watch.specs.Watches.{is_given_by, step_by}
use Rattle.cm_watch.proofs.watch.Watch.add_steps.Given as goal

-- the steps for the nodes below
abbrev pub invariant-loop-number : goal.invariant-loop-number
invariant-loop-number l =
    l.steps.items ≡ l.initial.steps.items ++ map (step_by l.self l.kind) (filter (is_given_by l.self l.network l.now l.kind) (range_with_len 1 (l.number - 1)))
