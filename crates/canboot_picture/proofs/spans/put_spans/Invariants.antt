use Rattle.std.proofs.Common.{ℕ, ◌≤◌, ◌-◌, List, length}
use Rattle.cm_netlist.specs.Network.{Network}
use Rattle.cm_history.specs.declared.call.Entry.{Entry}
use Rattle.canboot_picture.specs.Columns.{AreColumns, shown_at}
use Rattle.canboot_picture.proofs.Runs.{AreWritten}
use Rattle.canboot_picture.proofs.spans.put_spans.Given as goal

-- the spans before this column were written
abbrev pub invariant-loop-first : goal.invariant-loop-first
invariant-loop-first g l = record {
  inside : l.first ≤ length l.managers;
  written : (net : Network) (entries : List Entry) → AreColumns net entries l.scale.width l.managers
      → AreWritten (shown_at net entries l.scale.width l.id) l.scale l.row l.id (length l.managers) l.first
      (g.W.Write.contents l.initial.out) (g.W.Write.contents l.out);
}

abbrev pub decreases-loop-first : goal.decreases-loop-first
decreases-loop-first g l = length l.managers - l.first
