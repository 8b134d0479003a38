-- Entries that came in any order, and what of them was told (own).
use Rattle.std.specs.Prelude.{◌≡◌, ℕ, ◌<◌, ◌≤◌, ◌==◌, if◌then◌else◌, List, [], ◌∷◌, length, slice_get, take, Option, Some, None}
use Rattle.std.specs.List.{slice_index_or}
use Rattle.cm_telling.specs.declared.in_order.Placed.{Placed}
use Rattle.cm_telling.specs.declared.in_order.InOrder.{InOrder}

module _ {T : Type 0} where
  -- the first entry of this position among those that came, the oldest first
  abbrev pub entry_at : List (Placed T) → ℕ → Option (Placed T)
  entry_at [] p = None
  entry_at (e ∷ later) p = if e.position == p then Some e else entry_at later p

  -- the first entry of this position stands at place i
  pub record IsFirstAt (xs : List (Placed T)) (i p : ℕ) : Type 0 where
    pub within : i < length xs
    pub before : entry_at (take i xs) p ≡ None
    pub here : (d : Placed T) → (slice_index_or xs i d).position ≡ p

  -- what was told is the beginning without gaps: the entries of positions 0, 1, 2 .., and the next hasn't come
  pub record IsTold (arrived told : List (Placed T)) : Type 0 where
    pub each : (p : ℕ) → p < length told → entry_at arrived p ≡ slice_get told p
    pub missing : entry_at arrived (length told) ≡ None

  -- these came, and of them so much was told; what came for later positions waits
  pub record Holds (o : InOrder T) (arrived told : List (Placed T)) : Type 0 where
    pub count : o.next ≡ length told
    pub each : (p : ℕ) → p < length told → entry_at arrived p ≡ slice_get told p
    pub waiting : (p : ℕ) → length told ≤ p → entry_at o.waiting.items p ≡ entry_at arrived p
