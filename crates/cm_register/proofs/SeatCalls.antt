-- How many calls a seat has in a history that is one entry longer.
use Rattle.std.proofs.Common.{◌≡◌, ◌≢◌, ℕ, suc, ◌+◌, ◌<◌, ◌≤◌, ◌==◌, Bool, true, false, List, [], ◌∷◌, ◌++◌, length, get_or, set, refl, sym, ap, ◌∙◌, arith, length-append, get_or-set_other}
use Rattle.std.specs.Prelude.{if◌then◌else◌}
use Rattle.std.proofs.lemmas.Bool.Decides.{nat_tests}
use Rattle.std.proofs.lemmas.Grind.{get_or-set_at}
use Rattle.cm_history.specs.declared.call.Entry.{Entry}
use Rattle.cm_history.specs.Legal.{AreOfSeats}
use Rattle.cm_register.specs.SeatCalls.{calls_behind, calls_of}
use Rattle.cm_register.proofs.CallsOfSeats.{calls_append, made_by}
use Rattle.cm_register.specs.BookInvariant.{AreCounts}

one_if : {A : Type 0} (b : Bool) (y : A) → length (if b then y ∷ [] else []) ≡ (if b then 1 else 0)
one_if true y = refl
one_if false y = refl

-- the seat that made the call has one more, and each other one as many as it had
count_more : (k : ℕ) (h : List Entry) (e : Entry) → length (calls_of (h ++ e ∷ []) k) ≡ length (calls_of h k) + (if e.seat == k then 1 else 0)
count_more k h e =
    ap length (calls_append k 0 h (e ∷ []))
    ∙ (length-append (calls_of h k) (calls_behind k (0 + length h) (e ∷ []))
    ∙ ap (λ m. length (calls_of h k) + m) (one_if (e.seat == k) (made_by (0 + length h) e)))

count_at : (counts : List ℕ) (h : List Entry) (e : Entry) (i k : ℕ) → length counts ≡ 64 → e.seat ≡ i + 1 → i < 64 → get_or counts k 0 ≡ length (calls_of h (k + 1))
    → (b : Bool) → (e.seat == k + 1) ≡ b → get_or (set counts i (get_or counts i 0 + 1)) k 0 ≡ length (calls_of h (k + 1)) + (if b then 1 else 0)
count_at counts h e i k wide at below c true is =
    let same : k ≡ i = grind (arith, nat_tests) in
    let here : get_or (set counts i (get_or counts i 0 + 1)) k 0 ≡ get_or counts i 0 + 1 = get_or-set_at counts i k (get_or counts i 0 + 1) 0 same (omega arith) in
    here ∙ ap (λ j. get_or counts j 0 + 1) (sym same) ∙ ap (λ m. m + 1) c
count_at counts h e i k wide at below c false is =
    let other : k ≢ i = grind (arith, nat_tests) in
    (get_or-set_other counts i k (get_or counts i 0 + 1) 0 other ∙ c) ∙ omega arith

pub counts_more : (counts : List ℕ) (h : List Entry) (e : Entry) (i : ℕ) → length counts ≡ 64 → e.seat ≡ i + 1 → i < 64 → AreCounts counts h
    → AreCounts (set counts i (get_or counts i 0 + 1)) (h ++ e ∷ [])
counts_more counts h e i wide at below c k lt =
    count_at counts h e i k wide at below (c k lt) (e.seat == k + 1) refl ∙ sym (count_more (k + 1) h e)

pub seats_more : (seats : ℕ) (h : List Entry) (e : Entry) → AreOfSeats seats h → 0 < e.seat → e.seat ≤ seats → AreOfSeats seats (h ++ e ∷ [])
seats_more seats [] e s low high = (low, high, tt)
seats_more seats (x ∷ h) e s low high = (s.0, s.1, seats_more seats h e s.2 low high)

le_cons : {A : Type 0} (b : Bool) (y : A) (xs : List A) (n : ℕ) → length xs ≤ n → length (if b then y ∷ xs else xs) ≤ suc n
le_cons true y xs n p = omega arith
le_cons false y xs n p = omega arith

-- a seat has no more calls than the history has entries
pub calls_few : (k n : ℕ) (h : List Entry) → length (calls_behind k n h) ≤ length h
calls_few k n [] = omega arith
calls_few k n (x ∷ h) = le_cons (x.seat == k) (made_by n x) (calls_behind k (n + 1) h) (length h) (calls_few k (n + 1) h)
