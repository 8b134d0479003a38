use Rattle.std.proofs.Common.{take}
use Rattle.std.specs.Prelude.{flat_map}
use Rattle.std.specs.Io.KnownBytes.{Appends}
use Rattle.canboot_picture.specs.Marks.{mark_text}
use Rattle.canboot_picture.proofs.mark.put_marks.Given as goal

-- the marks so far
abbrev pub invariant-loop-mark : goal.invariant-loop-mark
invariant-loop-mark g l =
    Appends (g.W.Write.contents l.fn.out) (g.W.Write.contents l.out) (flat_map mark_text (take l.mark-index l.marks))
