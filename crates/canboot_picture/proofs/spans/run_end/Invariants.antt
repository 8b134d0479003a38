use Rattle.std.proofs.Common.{◌≡◌, ℕ, ◌≤◌, ◌<◌, List}
use Rattle.cm_netlist.specs.Network.{Network}
use Rattle.cm_history.specs.declared.call.Entry.{Entry}
use Rattle.canboot_picture.specs.Columns.{AreColumns, shown_at}
use Rattle.canboot_picture.proofs.spans.run_end.Given as goal

-- the columns so far have the state of the first
abbrev pub invariant-loop-column : goal.invariant-loop-column
invariant-loop-column l =
    (net : Network) (entries : List Entry) (width : ℕ) → AreColumns net entries width l.managers → (k : ℕ) → l.first ≤ k → k < l.column
    → shown_at net entries width l.id k ≡ shown_at net entries width l.id l.first
