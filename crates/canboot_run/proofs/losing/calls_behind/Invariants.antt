use Rattle.std.proofs.Common.{◌≡◌, take}
use Rattle.canboot_run.specs.Simulated.{losses}
use Rattle.canboot_run.proofs.losing.calls_behind.Given as goal

-- the losses so far
abbrev pub invariant-loop-outcome : goal.invariant-loop-outcome
invariant-loop-outcome l = l.calls.items ≡ losses l.faults (take l.outcome-index l.outcomes)
