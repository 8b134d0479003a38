use Rattle.std.proofs.Common.{take}
use Rattle.std.specs.Prelude.{flat_map}
use Rattle.std.specs.Io.KnownBytes.{Appends}
use Rattle.canboot_lists.specs.Explained.{slave_text_of}
use Rattle.canboot_lists.proofs.explaining.put_slaves.Given as goal

-- what is said of the slaves so far
abbrev pub invariant-loop-id : goal.invariant-loop-id
invariant-loop-id g l =
    Appends (g.W.Write.contents l.fn.out) (g.W.Write.contents l.out) (flat_map (slave_text_of l.network) (take l.id-index l.id-items))
