-- A picture before it is written (own).
use Rattle.std.specs.Prelude.{◌≡◌, ◌≤◌, List, length}
use Rattle.cm_netlist.specs.Network.{Network}
use Rattle.cm_history.specs.declared.call.Entry.{Entry}
use Rattle.canboot_picture.specs.Columns.{AreColumns}
use Rattle.canboot_picture.specs.declared.drawn.Picture.{Picture}

-- the picture is that of these entries, the oldest first: it has a manager for each column of them, and a column has 1 to 40 pixels
pub record IsPictureOf (p : Picture) (net : Network) (entries : List Entry) : Type 0 where
  pub counted : p.scale.entries ≡ length entries
  pub columns : AreColumns net entries p.scale.width p.managers.items
  pub seen : 1 ≤ p.scale.pitch
  pub narrow : p.scale.pitch ≤ 40
