-- Lanes, one below another.
use Rattle.std.proofs.Common.{◌≡◌, ℕ, ◌+◌, ◌<◌, List, [], ◌∷◌, ◌++◌, length, take, get_or, sym, ◌∙◌, ap}
use Rattle.std.proofs.lemmas.List.{take_more}
use Rattle.std.specs.Prelude.{Option}
use Rattle.std.proofs.KnownBytes.{Appends-trans}
use Rattle.cm_netlist.specs.Network.{Network}
use Rattle.cm_history.specs.declared.call.Entry.{Entry}
use Rattle.canboot_picture.specs.Spans.{AreLanes, no_lane, lane, WritesLane, WritesLanes}
use Rattle.canboot_picture.specs.declared.scale.Scale.{Scale}

-- the first lane
pub first_lane : (net : Network) (entries : List Entry) (scale : Scale) (node columns : ℕ) (a b : Option (List ℕ))
    → WritesLane net entries scale 0 node columns a b → WritesLanes net entries scale (node ∷ []) columns a b
first_lane net entries scale node columns a b one = record {
  text = _;
  lanes = lane [] [] node one.spans no_lane one.shown;
  written = one.written;
}

-- a lane more
pub lane_more : (net : Network) (entries : List Entry) (scale : Scale) (nodes : List ℕ) (node columns : ℕ) (a b c : Option (List ℕ))
    → WritesLanes net entries scale nodes columns a b → WritesLane net entries scale (length nodes) node columns b c
    → WritesLanes net entries scale (nodes ++ node ∷ []) columns a c
lane_more net entries scale nodes node columns a b c before one = record {
  text = _;
  lanes = lane nodes before.text node one.spans before.lanes one.shown;
  written = Appends-trans a b c _ _ before.written one.written;
}

-- one node more behind the first
pub nodes_more : (own : ℕ) (ids : List ℕ) (i id : ℕ) → i < length ids → id ≡ get_or ids i id → (own ∷ take i ids) ++ id ∷ [] ≡ own ∷ take (i + 1) ids
nodes_more own ids i id h is = ap (λ (l : List ℕ). own ∷ l) (sym (take_more ids i id h ∙ ap (λ (x : ℕ). take i ids ++ x ∷ []) (sym is)))
