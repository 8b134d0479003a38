use Rattle.std.proofs.Common.{◌≡◌}
use Rattle.canboot_saying.proofs.hearing.count_beats.Given as goal

abbrev pub invariant-loop-step : goal.invariant-loop-step
invariant-loop-step l = l.notices.sent ≡ l.initial.notices.sent
