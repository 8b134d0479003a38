-- Where the lists of all seats are beginnings of their calls, no number comes twice, and there are as many calls in the lists
-- as in the history, each list is all of its seat's calls.
use Rattle.std.proofs.Common.{◌≡◌, ◌≢◌, ℕ, ◌+◌, ◌≤◌, ◌==◌, Bool, true, false, List, [], ◌∷◌, length, refl, sym, ap, subst, arith, inl, inr}
use Rattle.std.specs.Prelude.{if◌then◌else◌, All}
use Rattle.std.proofs.lemmas.Bool.{cases_eq, eq-eqb, ne_eqb}
use Rattle.std.proofs.lemmas.List.Elements.{All-cons, All-head, All-nil, All-tail}
use Rattle.cm_history.specs.declared.call.Entry.{Entry}
use Rattle.cm_growing.proofs.Prefixes.{prefix_length, prefix_whole}
use Rattle.cm_register.specs.Handing.{AreApart, HaveTheirCalls, count_calls}
use Rattle.cm_register.specs.Knowing.{AllHaveCallsOf}
use Rattle.cm_register.specs.SeatCalls.{calls_behind, calls_of}
use Rattle.cm_register.specs.SeatViews.{SeatView}
use Rattle.cm_register.proofs.CallsOfSeats.{made_by}

-- how many calls of these seats the history has, which stands behind n entries
abbrev pub counts : ℕ → List Entry → List SeatView → ℕ
counts n h [] = 0
counts n h (s ∷ ss) = length (calls_behind s.number n h) + counts n h ss

-- how many of these seats have this number
abbrev pub hits : ℕ → List SeatView → ℕ
hits k [] = 0
hits k (s ∷ ss) = (if k == s.number then 1 else 0) + hits k ss

length_if : {A : Type 0} (b : Bool) (y : A) (xs : List A) → length (if b then y ∷ xs else xs) ≡ (if b then 1 else 0) + length xs
length_if true y xs = omega arith
length_if false y xs = omega arith

pub counts_cons : (n : ℕ) (x : Entry) (h : List Entry) (ss : List SeatView) → counts n (x ∷ h) ss ≡ hits x.seat ss + counts (n + 1) h ss
counts_cons n x h [] = refl
counts_cons n x h (s ∷ ss) = omega (arith, length_if (x.seat == s.number) (made_by n x) (calls_behind s.number (n + 1) h), counts_cons n x h ss)

no_hits : (k : ℕ) (ss : List SeatView) → All (λ (t : SeatView). t.number ≢ k) ss → hits k ss ≡ 0
no_hits k [] a = refl
no_hits k (s ∷ ss) a =
    let other : (k == s.number) ≡ false = ne_eqb k s.number (λ e. All-head (λ (t : SeatView). t.number ≢ k) s ss a (sym e)) in
    omega (arith, ap {B = ℕ} (λ (b : Bool). if b then 1 else 0) other, no_hits k ss (All-tail (λ (t : SeatView). t.number ≢ k) s ss a))

pub few_hits : (k : ℕ) (ss : List SeatView) → AreApart ss → hits k ss ≤ 1
few_hits k [] a = omega arith
few_hits k (s ∷ ss) a = elim (cases_eq k s.number) [
  | inl same ↦
      let none = no_hits k ss (subst (λ (n : ℕ). All (λ (t : SeatView). t.number ≢ n) ss) (sym same) a.0) in
      omega (arith, ap {B = ℕ} (λ (b : Bool). if b then 1 else 0) (eq-eqb k s.number same), none)
  | inr other ↦ omega (arith, ap {B = ℕ} (λ (b : Bool). if b then 1 else 0) (ne_eqb k s.number other), few_hits k ss a.1)
]

no_counts : (n : ℕ) (ss : List SeatView) → counts n [] ss ≡ 0
no_counts n [] = refl
no_counts n (s ∷ ss) = omega (arith, no_counts n ss)

pub few_counts : (n : ℕ) (h : List Entry) (ss : List SeatView) → AreApart ss → counts n h ss ≤ length h
few_counts n [] ss a = omega (arith, no_counts n ss)
few_counts n (x ∷ h) ss a = omega (arith, counts_cons n x h ss, few_hits x.seat ss a, few_counts (n + 1) h ss a)

few_calls : (h : List Entry) (ss : List SeatView) → AllHaveCallsOf h ss → count_calls ss ≤ counts 0 h ss
few_calls h [] b = omega arith
few_calls h (s ∷ ss) b = omega (arith, prefix_length s.list (calls_of h s.number) b.0, few_calls h ss b.1)

all_calls : (h : List Entry) (ss : List SeatView) → AllHaveCallsOf h ss → count_calls ss ≡ counts 0 h ss → HaveTheirCalls h ss
all_calls h [] b same = All-nil (λ (s : SeatView). s.list ≡ calls_of h s.number)
all_calls h (s ∷ ss) b same =
    let one = prefix_length s.list (calls_of h s.number) b.0 in
    let rest = few_calls h ss b.1 in
    All-cons (λ (t : SeatView). t.list ≡ calls_of h t.number) s ss
    (prefix_whole s.list (calls_of h s.number) b.0 (omega (arith, same, one, rest)))
    (all_calls h ss b.1 (omega (arith, same, one, rest)))

pub seats_have_their_calls : (h : List Entry) (ss : List SeatView) → AllHaveCallsOf h ss → AreApart ss → count_calls ss ≡ length h → HaveTheirCalls h ss
seats_have_their_calls h ss b a total = all_calls h ss b (omega (arith, total, few_calls h ss b, few_counts 0 h ss a))
