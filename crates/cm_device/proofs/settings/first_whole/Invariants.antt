use Rattle.std.proofs.Common.{◌≤◌, ◌<◌, length}
use Rattle.cm_device.proofs.settings.first_whole.Given as goal

-- no more than were asked for, and there is another write behind them
abbrev pub invariant-loop-count : goal.invariant-loop-count
invariant-loop-count l = record {
  few : l.count ≤ l.most;
  inside : l.count < length l.settings;
}

abbrev pub decreases-loop-count : goal.decreases-loop-count
decreases-loop-count l = l.count
