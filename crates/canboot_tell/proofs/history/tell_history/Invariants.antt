use Rattle.std.proofs.Common.{take}
use Rattle.std.specs.Prelude.{reverse}
use Rattle.std.specs.Io.KnownBytes.{Appends}
use Rattle.canboot_tell.specs.Tellers.{Knows}
use Rattle.canboot_tell.specs.ToldHistory.{history_told}
use Rattle.canboot_tell.proofs.history.tell_history.Given as goal

-- the entries so far were taken, and told
abbrev pub invariant-loop-entry : goal.invariant-loop-entry
invariant-loop-entry g l = record {
  knows : Knows l.teller l.network (reverse (take l.entry-index l.entries));
  written : Appends (g.W.Write.contents l.initial.out) (g.W.Write.contents l.out) (history_told l.network l.node (reverse (take l.entry-index l.entries)));
}
