-- Columns of a history: where they end, and one more.
use Rattle.std.proofs.Common.{◌≡◌, ℕ, ◌+◌, ◌*◌, ◌<◌, ◌≤◌, List, [], ◌∷◌, ◌++◌, length, take, get_or, sym, ◌∙◌, ap, subst, arith, length-append}
use Rattle.std.specs.Prelude.{slice_range, min, ◌-◌}
use Rattle.std.proofs.Math.Seq.{take-add, get_or-append_seam}
use Rattle.std.proofs.Math.ListN.{get_or-append}
use borrow.Author.Count.{below_more}
use Rattle.cm_netlist.specs.Network.{Network}
use Rattle.cm_history.specs.declared.call.Entry.{Entry}
use Rattle.cm_sequential.specs.Standing.{Stands}
use Rattle.cm_sequential.specs.declared.manager.Manager.{Manager}
use Rattle.canboot_picture.specs.Columns.{past_at}

-- a manager for each column so far
pub record AreSoFar (net : Network) (entries : List Entry) (width : ℕ) (managers : List Manager) : Type 0 where
  pub stands : (column : ℕ) (m : Manager) → column < length managers → m ≡ get_or managers column m → Stands m net (past_at width entries column)

-- the first entries, and those behind them up to a place
pub taken_to : (entries : List Entry) (from to : ℕ) → from ≤ to → take from entries ++ slice_range entries from to ≡ take to entries
taken_to entries from to h =
    let whole : from + (to - from) ≡ to = omega arith in
    sym (take-add from (to - from) entries) ∙ ap (λ (n : ℕ). take n entries) whole

-- where the column ends that begins here
pub next_end : (column width count from : ℕ) → from ≡ min (column * width) count → from < count
    → from + min width (count - from) ≡ min ((column + 1) * width) count
next_end column width count from is h = omega arith

-- the column that begins here isn't empty
pub next_filled : (column width count from : ℕ) → from ≡ min (column * width) count → from < count → (column + 1) * width < count + width
next_filled column width count from is h = omega arith

-- a column more
pub column_more : (net : Network) (entries : List Entry) (width : ℕ) (managers : List Manager) (m : Manager) → AreSoFar net entries width managers
    → Stands m net (past_at width entries (length managers)) → AreSoFar net entries width (managers ++ m ∷ [])
column_more net entries width managers m before stands =
    let P : ℕ → Type 0 = λ k. (x : Manager) → x ≡ get_or (managers ++ m ∷ []) k x → Stands x net (past_at width entries k) in
    let below : (k : ℕ) → k < length managers → P k = λ k low x is. before.stands k x low (is ∙ get_or-append managers (m ∷ []) x k low) in
    let here : P (length managers) = λ x is.
    let Q : Manager → Type 0 = λ y. Stands y net (past_at width entries (length managers)) in
    subst Q (sym (is ∙ get_or-append_seam managers m [] x)) stands in
    record {
      stands = λ column other inside is. below_more P (length managers) below here column (omega (arith, length-append managers (m ∷ []), inside)) other is;
    }
