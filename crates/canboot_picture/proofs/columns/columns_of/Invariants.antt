use Rattle.std.proofs.Common.{◌≡◌, ◌<◌, ◌≤◌, ◌+◌, ◌-◌, ◌*◌, length, take}
use Rattle.std.specs.Prelude.{min}
use Rattle.cm_sequential.specs.Compact.{IsReplayOf}
use Rattle.canboot_picture.proofs.Ends.{AreSoFar}
use Rattle.canboot_picture.proofs.columns.columns_of.Given as goal

-- the replay is that of the entries before this place, where the next column begins, and each column so far has its manager
abbrev pub invariant-loop-from : goal.invariant-loop-from
invariant-loop-from l = record {
  replay : IsReplayOf l.replay l.network (take l.from l.entries);
  columns : AreSoFar l.network l.entries l.width l.managers.items;
  ends : l.from ≡ min (length l.managers.items * l.width) (length l.entries);
  filled : length l.managers.items * l.width < length l.entries + l.width;
  few : length l.managers.items ≤ l.from;
}

abbrev pub decreases-loop-from : goal.decreases-loop-from
decreases-loop-from l = length l.entries - l.from
