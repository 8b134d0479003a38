use Rattle.std.proofs.Common.{take}
use Rattle.std.specs.Prelude.{flat_map}
use Rattle.std.specs.Io.KnownBytes.{Appends}
use Rattle.canboot_lists.specs.Explained.{write_text}
use Rattle.canboot_lists.proofs.slave_lines.put_writes.Given as goal

-- the lines of the writes so far
abbrev pub invariant-loop-write : goal.invariant-loop-write
invariant-loop-write g l =
    Appends (g.W.Write.contents l.initial.out) (g.W.Write.contents l.out) (flat_map write_text (take l.write-index l.writes))
