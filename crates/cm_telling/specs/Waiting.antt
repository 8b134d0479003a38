-- What waits to be told, and when: each value once, in the order of the history, once its frames were handed to the wire (own).
use Rattle.std.specs.Prelude.{◌≡◌, ◌+◌, ◌-◌, ◌^◌, ◌||◌, if◌then◌else◌, [], ◌∷◌, ◌++◌, ℕ, Bool, List}
use Rattle.std.specs.Prelude.{nat_le, min, length, map, Option, Some, None}
use Rattle.cm_telling.specs.InOrder.{Holds}
use Rattle.cm_telling.specs.declared.in_order.Placed.{Placed}
use Rattle.cm_watch.specs.declared.telling.Told.{Told}
use Rattle.cm_telling.specs.declared.waiting.Untold.{Untold}
use Rattle.cm_telling.specs.declared.waiting.Waiting.{Waiting}

-- so many frames, and so many more: at most 2^64 - 1 are counted
abbrev pub added : ℕ → ℕ → ℕ
added sum n = min (sum + n) (2 ^ 64 - 1)

-- the frames of all values, behind so many
abbrev pub total : ℕ → List ℕ → ℕ
total sum [] = sum
total sum (n ∷ counts) = total (added sum n) counts

-- of each value its frames and those of all before it, behind so many
abbrev pub sums : ℕ → List ℕ → List ℕ
sums sum [] = []
sums sum (n ∷ counts) = added sum n ∷ sums (added sum n) counts

module _ {T : Type 0} where
  -- a value with its place in a history: so many entries stand before it
  abbrev pub placed_at : ℕ → T → Placed T
  placed_at p v = record { position = p; value = v }

  -- a value with what is told with it, at a place counted from 1, once so many frames were handed to the wire
  abbrev pub untold_of : T → Told → Bool → ℕ → ℕ → Untold T
  untold_of v told halted place frames = record { value = v; told = told; is_halted = halted; place = place; frames = frames }

  -- the frames of all values up to this one were handed to the wire, where so many were
  abbrev pub is_handed : ℕ → Untold T → Bool
  is_handed handed u = nat_le u.frames handed

  -- the next that is told: the first that waits, once it was handed or at the end of a run, with whether it was; none else
  abbrev pub next_told : List (Untold T) → ℕ → Bool → Option (Untold T × Bool)
  next_told [] handed end = None
  next_told (u ∷ rest) handed end = if is_handed handed u || end then Some (u, is_handed handed u) else None

  -- what waits behind that: the others, in their order; all, where none is told
  abbrev pub left_untold : List (Untold T) → ℕ → Bool → List (Untold T)
  left_untold [] handed end = []
  left_untold (u ∷ rest) handed end = if is_handed handed u || end then rest else u ∷ rest

  -- what waits or was told, as an entry of the history
  abbrev pub entry_of : Untold T → Placed T
  entry_of u = placed_at (u.place - 1) u.value

  -- what was told, and then what waits: these entries, each once, in its order and at its place, each with its frames and those of
  -- all before it, where they have so many
  pub record AreKept (w : Waiting T) (said : List (Untold T)) (entries : List (Placed T)) (counts : List ℕ) : Type 0 where
    pub each : map entry_of (said ++ w.untold.items) ≡ entries
    pub sums : map (λ (u : Untold T). u.frames) (said ++ w.untold.items) ≡ sums 0 counts
    pub total : w.frames ≡ total 0 counts

  -- these came, and of them so much was given, the beginning without gaps; as far as it is said that was told, and else it waits
  pub record Tells (w : Waiting T) (arrived given : List (Placed T)) (said : List (Untold T)) (counts : List ℕ) : Type 0 where
    pub order : Holds w.order arrived given
    pub kept : AreKept w said given counts

  -- the same, and the value behind them was given too, and doesn't wait yet
  pub record Gives (w : Waiting T) (arrived given : List (Placed T)) (said : List (Untold T)) (counts : List ℕ) (v : T) : Type 0 where
    pub order : Holds w.order arrived (given ++ placed_at (length given) v ∷ [])
    pub kept : AreKept w said given counts
