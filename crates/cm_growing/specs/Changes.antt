-- What the next entry of a history changes of what is shown (own).
use Rattle.std.specs.Prelude.{◌≡◌, ◌≤◌, ◌<◌, ℕ, false, ◌==◌, List, ◌∷◌, length, reverse}
use Rattle.cm_nmt.specs.Listing.{Listing}
use Rattle.cm_history.specs.Answering.{node_named}
use Rattle.cm_history.specs.History.{shown}
use Rattle.cm_history.specs.Legal.{IsAnswered, most_entries}
use Rattle.cm_history.specs.declared.call.Entry.{Entry}

-- the entry is the next one of the history, whose oldest entry comes first; these are what is shown with it of the
-- manager itself and of the node, which is the one that its call names, if it names one
pub record IsChange (net : Listing) (before : List Entry) (e : Entry) (node value own own_value : ℕ) : Type 0 where
  pub answered : IsAnswered net e (reverse before)
  pub few : length before < most_entries
  pub is_own : own ≡ net.own
  pub of_own : own_value ≡ shown net (e ∷ reverse before) own
  pub of_node : value ≡ shown net (e ∷ reverse before) node
  pub named : (t : ℕ) → 1 ≤ t → t < 128 → (node == t) ≡ false → (node_named e.call == t) ≡ false

-- with the entry there is shown what was shown before it, of each node but these two
abbrev pub Stays : Listing → List Entry → Entry → ℕ → ℕ → Type 0
Stays net before e node own =
    (t : ℕ) → 1 ≤ t → t < 128 → (node == t) ≡ false → (t == own) ≡ false → shown net (e ∷ reverse before) t ≡ shown net (reverse before) t

-- with the entry there is shown of the node what was shown of it before
abbrev pub StaysShown : Listing → List Entry → Entry → ℕ → Type 0
StaysShown net before e t = shown net (e ∷ reverse before) t ≡ shown net (reverse before) t

-- with the entry there is shown of every node but this one what was shown of it before
abbrev pub OthersStay : Listing → List Entry → Entry → ℕ → Type 0
OthersStay net before e node = (t : ℕ) → 1 ≤ t → t < 128 → (t ≡ node → ⊥) → StaysShown net before e t

-- after the entry this is shown of a node, where that was shown of it before
abbrev pub LeavesState : Entry → ℕ → ℕ → ℕ → ℕ → ℕ → ℕ → ℕ → Type 0
LeavesState e node value own own_value t state after =
    (net : Listing) (before : List Entry) → IsChange net before e node value own own_value → 1 ≤ t → t < 128
    → state ≡ shown net (reverse before) t → after ≡ shown net (e ∷ reverse before) t
