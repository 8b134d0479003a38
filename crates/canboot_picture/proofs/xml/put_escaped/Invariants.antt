use Rattle.std.proofs.Common.{take}
use Rattle.std.specs.Prelude.{flat_map}
use Rattle.std.specs.Io.KnownBytes.{Appends}
use Rattle.canboot_picture.specs.Xml.{escape}
use Rattle.canboot_picture.proofs.xml.put_escaped.Given as goal

-- the bytes so far
abbrev pub invariant-loop-byte : goal.invariant-loop-byte
invariant-loop-byte g l =
    Appends (g.W.Write.contents l.fn.out) (g.W.Write.contents l.out) (flat_map escape (take l.byte-index l.byte-items))
