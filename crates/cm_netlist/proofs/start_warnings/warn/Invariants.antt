use Rattle.std.proofs.Common.{take}
use Rattle.std.specs.Prelude.{flat_map}
use Rattle.std.specs.Io.KnownBytes.{Appends}
use Rattle.cm_netlist.specs.StartWarnings.{told_warnings_of}
use Rattle.cm_netlist.proofs.start_warnings.warn.Given as goal

-- what is told of the slaves so far
abbrev pub invariant-loop-id : goal.invariant-loop-id
invariant-loop-id g l =
    Appends (g.W.Write.contents l.fn.out) (g.W.Write.contents l.out) (flat_map (told_warnings_of l.front l.network) (take l.id-index l.id-items))
