-- Logs that grow: the entries of a longer log, and what it shows.
use Rattle.std.proofs.Common.{◌≡◌, ℕ, ◌+◌, ◌≤◌, ◌==◌, cond, max, Bool, true, false, List, [], ◌∷◌, ◌++◌, length, take, drop, ◌-◌, refl, ap, sym, subst, ◌∙◌, arith}
use Rattle.std.proofs.lemmas.List.{take-append-le}
use Rattle.std.specs.Prelude.{reverse}
use Rattle.std.proofs.Math.Nat.{le-max_left, zero-max}
use Rattle.std.proofs.Math.Seq.{take-add}
use mathlib.Core.List.{IsPrefix}
use Rattle.cm_nmt.specs.Listing.{Listing}
use Rattle.cm_netlist.specs.Network.{Network}
use Rattle.cm_history.specs.History.{shown}
use Rattle.cm_history.specs.declared.call.Entry.{Entry}
use Rattle.cm_growing.specs.declared.log_item.LogItem.{LogItem}
use Rattle.cm_growing.specs.declared.log_item.LogItem.TheVariants as item
use Rattle.cm_growing.specs.Items.{IsOf, IsSame, current_from, done_in, entries_in, number_of, shown_at, since_in}
use Rattle.cm_growing.proofs.Prefixes.{prefix_length}

max_assoc : (a b c : ℕ) → max a (max b c) ≡ max (max a b) c
max_assoc a b c = omega arith

pub entries_more : (xs ys : List LogItem) → entries_in (xs ++ ys) ≡ entries_in xs ++ entries_in ys
entries_more [] ys = refl
entries_more (item.Opened n ∷ xs) ys = entries_more xs ys
entries_more (item.Entry e ∷ xs) ys = ap (λ (w : List Entry). e ∷ w) (entries_more xs ys)
entries_more (item.Moved e n k ∷ xs) ys = ap (λ (w : List Entry). e ∷ w) (entries_more xs ys)
entries_more (item.Stored k n ∷ xs) ys = entries_more xs ys
entries_more (item.Shown n ∷ xs) ys = entries_more xs ys

pub done_more : (xs ys : List LogItem) → done_in (xs ++ ys) ≡ max (done_in xs) (done_in ys)
done_more [] ys = sym (zero-max (done_in ys))
done_more (item.Opened n ∷ xs) ys = done_more xs ys
done_more (item.Entry e ∷ xs) ys = done_more xs ys
done_more (item.Moved e n k ∷ xs) ys = ap (max n) (done_more xs ys) ∙ (max_assoc n (done_in xs) (done_in ys))
done_more (item.Stored k n ∷ xs) ys = done_more xs ys
done_more (item.Shown n ∷ xs) ys = ap (max n) (done_more xs ys) ∙ (max_assoc n (done_in xs) (done_in ys))

stored_more : (b : Bool) (n both this that : ℕ) → both ≡ max this that → cond b (max n both) both ≡ max (cond b (max n this) this) that
stored_more true n both this that p = ap (max n) p ∙ (max_assoc n this that)
stored_more false n both this that p = p

pub since_more : (xs ys : List LogItem) (t : ℕ) → since_in (xs ++ ys) t ≡ max (since_in xs t) (since_in ys t)
since_more [] ys t = sym (zero-max (since_in ys t))
since_more (item.Opened n ∷ xs) ys t = since_more xs ys t
since_more (item.Entry e ∷ xs) ys t = since_more xs ys t
since_more (item.Moved e n k ∷ xs) ys t = since_more xs ys t
since_more (item.Stored k n ∷ xs) ys t = stored_more (k == t) n (since_in (xs ++ ys) t) (since_in xs t) (since_in ys t) (since_more xs ys t)
since_more (item.Shown n ∷ xs) ys t = since_more xs ys t

-- what the first word has after more items
pub current_more : (k : ℕ) (xs ys : List LogItem) → current_from k (xs ++ ys) ≡ current_from (current_from k xs) ys
current_more k [] ys = refl
current_more k (item.Opened n ∷ xs) ys = current_more k xs ys
current_more k (item.Entry e ∷ xs) ys = current_more 0 xs ys
current_more k (item.Moved e n node ∷ xs) ys = current_more (number_of node) xs ys
current_more k (item.Stored t n ∷ xs) ys = current_more k xs ys
current_more k (item.Shown n ∷ xs) ys = current_more k xs ys

pub entries_begin : (xs ys : List LogItem) → IsPrefix xs ys → IsPrefix (entries_in xs) (entries_in ys)
entries_begin xs ys p = (entries_in p.0, sym (entries_more xs p.0) ∙ ap entries_in p.1)

pub done_rises : (xs ys : List LogItem) → IsPrefix xs ys → done_in xs ≤ done_in ys
done_rises xs ys p = subst (λ (n : ℕ). done_in xs ≤ n) (sym (done_more xs p.0) ∙ ap done_in p.1) (le-max_left (done_in xs) (done_in p.0))

pub since_rises : (xs ys : List LogItem) (t : ℕ) → IsPrefix xs ys → since_in xs t ≤ since_in ys t
since_rises xs ys t p = subst (λ (n : ℕ). since_in xs t ≤ n) (sym (since_more xs p.0 t) ∙ ap (λ w. since_in w t) p.1) (le-max_left (since_in xs t) (since_in p.0 t))

pub entries_count : (xs ys : List LogItem) → IsPrefix xs ys → length (entries_in xs) ≤ length (entries_in ys)
entries_count xs ys p = prefix_length (entries_in xs) (entries_in ys) (entries_begin xs ys p)

-- the first entries of a log are those of each longer one
pub take_same : (xs ys : List LogItem) (m : ℕ) → IsPrefix xs ys → m ≤ length (entries_in xs) → take m (entries_in xs) ≡ take m (entries_in ys)
take_same xs ys m p le =
    let q = entries_begin xs ys p in
    sym (take-append-le m (entries_in xs) q.0 le) ∙ ap (take m) q.1

pub shown_same : (net : Listing) (xs ys : List LogItem) (m t : ℕ) → IsPrefix xs ys → m ≤ length (entries_in xs) → shown_at net (entries_in xs) m t ≡ shown_at net (entries_in ys) m t
shown_same net xs ys m t p le = ap (λ (w : List Entry). shown net (reverse w) t) (take_same xs ys m p le)

-- what is the same up to so many entries stays so
pub same_later : (net : Listing) (xs ys : List LogItem) (c t : ℕ) → IsPrefix xs ys → c ≤ length (entries_in xs) → IsSame net xs c t → IsSame net ys c t
same_later net xs ys c t p le same m low high =
    let rises = since_rises xs ys t p in
    sym (shown_same net xs ys m t p (omega (arith, high, le)))
    ∙ same m (omega (arith, rises, low)) high
    ∙ sym (same (since_in ys t) rises (omega (arith, low, high)))
    ∙ shown_same net xs ys (since_in ys t) t p (omega (arith, low, high, le))

-- a log is of one network
pub same_net : (a b : Network) (log : List LogItem) → IsOf a log → IsOf b log → a ≡ b
same_net a b log p q = opened_same (cc (p.1, q.1))
  where
    opened_same : item.Opened a ∷ p.0 ≡ item.Opened b ∷ q.0 → a ≡ b
    opened_same e = cc e

take_prefix : (m n : ℕ) (es : List Entry) → m ≤ n → IsPrefix (take m es) (take n es)
take_prefix m n es le =
    let all : m + (n - m) ≡ n = omega (arith, le) in
    (take (n - m) (drop m es), sym (take-add m (n - m) es) ∙ ap (λ (k : ℕ). take k es) all)

-- of the first entries of two logs that one log goes on from, the fewer begin the more
pub take_begins : (xs ys both : List LogItem) (m n : ℕ) → IsPrefix xs both → IsPrefix ys both → m ≤ length (entries_in xs) → n ≤ length (entries_in ys) → m ≤ n
    → IsPrefix (take m (entries_in xs)) (take n (entries_in ys))
take_begins xs ys both m n p q few more le =
    subst (λ (w : List Entry). IsPrefix (take m (entries_in xs)) w) (sym (take_same ys both n q more))
    (subst (λ (w : List Entry). IsPrefix w (take n (entries_in both))) (sym (take_same xs both m p few)) (take_prefix m n (entries_in both) le))
