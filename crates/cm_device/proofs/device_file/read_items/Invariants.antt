use Rattle.std.proofs.Common.{◌≡◌, ◌+◌, drop, length}
use Rattle.cm_text.specs.Words.{split}
use Rattle.cm_text.specs.Left.{left}
use Rattle.cm_device.specs.DeviceFiles.{behind_mark}
use Rattle.cm_device.specs.FileLines.{AreAllBefore, AreOf, IsBegun}
use Rattle.cm_device.proofs.device_file.read_items.Given as goal

-- the lines so far, and what is left
abbrev pub invariant-loop-line : goal.invariant-loop-line
invariant-loop-line l = record {
  rest : drop l.number (split 10 (behind_mark l.file)) ≡ left l.lines;
  count : l.number + length (left l.lines) ≡ length (split 10 (behind_mark l.file));
  items : AreOf l.file l.items.items;
  all : AreAllBefore (behind_mark l.file) l.number l.items.items;
  begun : IsBegun (behind_mark l.file) l.number l.begun;
}

abbrev pub decreases-loop-line : goal.decreases-loop-line
decreases-loop-line l = length (left l.lines)
