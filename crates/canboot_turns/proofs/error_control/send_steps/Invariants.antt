use Rattle.std.proofs.Common.{◌≡◌, take}
use Rattle.canboot_turns.specs.Sendings.{HasSentSteps}
use Rattle.canboot_turns.proofs.error_control.send_steps.Given as goal

-- the frames of the steps so far were sent
abbrev pub invariant-loop-step : goal.invariant-loop-step
invariant-loop-step g l = record {
  sent : HasSentSteps g.W.Write.contents l.network (take l.step-index l.steps) l.initial.outlet.outlet l.outlet.outlet;
  format : l.outlet.outlet.format ≡ l.initial.outlet.outlet.format;
}
