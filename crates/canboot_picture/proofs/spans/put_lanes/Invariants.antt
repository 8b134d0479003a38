use Rattle.std.proofs.Common.{◌≡◌, List, take, ◌∷◌, length}
use Rattle.cm_history.specs.declared.call.Entry.{Entry}
use Rattle.canboot_picture.specs.Columns.{AreColumns}
use Rattle.canboot_picture.specs.Spans.{WritesLanes}
use Rattle.canboot_picture.proofs.spans.put_lanes.Given as goal

-- the lanes of the manager and of the slaves so far were written
abbrev pub invariant-loop-id : goal.invariant-loop-id
invariant-loop-id g l = record {
  row : l.row ≡ l.id-index;
  written : (entries : List Entry) → AreColumns l.network entries l.scale.width l.managers
      → WritesLanes l.network entries l.scale (l.network.own ∷ take l.id-index l.id-items) (length l.managers)
      (g.W.Write.contents l.fn.out) (g.W.Write.contents l.out);
}
