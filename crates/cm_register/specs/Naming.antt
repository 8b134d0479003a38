-- What is opened, and which name is that of it (own).
use Rattle.std.specs.Prelude.{◌≡◌, ℕ}
use Rattle.logbook.specs.Pages.{Book}
use Rattle.cm_nmt.specs.declared.wire.Wire.{Ghosts as WireGhosts}
use Rattle.cm_netlist.specs.Network.{Network}
use Rattle.cm_growing.specs.Unnamed.{log_of}
use Rattle.cm_register.specs.declared.opened.Opened.{Opened}
use Rattle.cm_register.specs.Opening.{MayOpen}

-- what a name says of a register: its network list and its log, its ledger's name and parts, its seats and its limit
abbrev pub Name : Type 0
Name = record { net : Network; log : Book; name : ℕ; parts : ℕ; seats : ℕ; limit : ℕ }

module _ {W : Type 0} {wires : WireGhosts W} where
  -- nothing was in the way, and what is opened has just what was given
  pub record IsOpened (net : Network) (seats limit : ℕ) (wire : W) (opened : Opened W wires) : Type 0 where
    pub may : MayOpen seats limit (wires.sent wire)
    pub network : opened.net.now ≡ net
    pub seated : opened.seats ≡ seats
    pub limited : opened.limit ≡ limit
    pub wired : opened.wire ≡ wire

  -- the name is that of this register
  pub record Names (name : Name) (opened : Opened W wires) : Type 0 where
    pub ledger : opened.blank.name ≡ name.name
    pub parts : opened.seats ≡ name.parts
    pub seats : opened.seats ≡ name.seats
    pub limit : opened.limit ≡ name.limit
    pub network : opened.net.now ≡ name.net
    pub log : log_of opened.log ≡ name.log
