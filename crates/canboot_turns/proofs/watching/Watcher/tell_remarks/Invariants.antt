use Rattle.std.proofs.Common.{◌≡◌}
use Rattle.canboot_turns.specs.Causes.{stand_of}
use Rattle.canboot_turns.proofs.watching.Watcher.tell_remarks.Given as goal

abbrev pub invariant-loop : goal.invariant-loop
invariant-loop g l = stand_of l.self ≡ stand_of l.initial.self
