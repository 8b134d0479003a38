use Rattle.std.proofs.Common.{◌≡◌}
use Rattle.canboot_turns.proofs.publishing.Batches.take_all.Given as goal

-- to take entries shows readers nothing
abbrev pub invariant-loop : goal.invariant-loop
invariant-loop g l = l.publisher.shown ≡ l.initial.publisher.shown
