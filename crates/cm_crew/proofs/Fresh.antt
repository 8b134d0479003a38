-- The seats of a register that was opened have made no call.
use Rattle.std.proofs.Common.{◌≡◌, ◌<◌, ℕ, zero, suc, ◌+◌, List, [], ◌∷◌, ◌++◌, length, take, drop, refl, ap, ◌∙◌, arith}
use Rattle.std.specs.Prelude.{All, remove, slice_index_or}
use Rattle.std.proofs.lemmas.List.Elements.{All-append, All-drop, All-nil, All-push, All-same, All-take}
use Rattle.cm_register.specs.SeatOpening.{fresh_seat, fresh_seats}
use Rattle.cm_register.specs.SeatViews.{SeatView}
use Rattle.cm_register.proofs.Seats.{some_seats}

abbrev pub IsFresh : SeatView → Type 0
IsFresh s = s.list ≡ []

pub all_fresh : (n : ℕ) → All IsFresh (fresh_seats n)
all_fresh zero = All-nil IsFresh
all_fresh (suc n) = All-push IsFresh (fresh_seats n) (fresh_seat (n + 1)) (all_fresh n) refl

pub first_fresh : (xs : List SeatView) (x : SeatView) → 0 < length xs → x ≡ slice_index_or xs 0 x → All IsFresh xs → IsFresh x
first_fresh xs x some e a = ap (λ (s : SeatView). s.list) e ∙ a 0 x some

pub rest_fresh : (xs ys : List SeatView) → ys ≡ remove xs 0 → All IsFresh xs → All IsFresh ys
rest_fresh xs ys e a = All-same IsFresh ys (remove xs 0) e (All-append IsFresh (take 0 xs) (drop 1 xs) (All-take IsFresh 0 xs a) (All-drop IsFresh 1 xs a))

-- ---- the first of them is seat 1

front_first : (xs ys : List SeatView) (d : SeatView) → 0 < length xs → slice_index_or (xs ++ ys) 0 d ≡ slice_index_or xs 0 d
front_first [] ys d some = absurd (omega (arith, some))
front_first (x ∷ xs) ys d some = refl

first_of : (n : ℕ) (d : SeatView) → slice_index_or (fresh_seats (suc n)) 0 d ≡ fresh_seat 1
first_of zero d = refl
first_of (suc n) d = front_first (fresh_seats (suc n)) (fresh_seat (suc n + 1) ∷ []) d (some_seats (suc n) (omega arith)) ∙ first_of n d

pub first_seat : (n : ℕ) (xs : List SeatView) (x : SeatView) → 0 < n → xs ≡ fresh_seats n → x ≡ slice_index_or xs 0 x → (x.number ≡ 1) × (x.list ≡ [])
first_seat zero xs x some e is = absurd (omega (arith, some))
first_seat (suc n) xs x some e is =
    let first : x ≡ fresh_seat 1 = is ∙ (ap (λ (l : List SeatView). slice_index_or l 0 x) e ∙ first_of n x) in
    (ap (λ (s : SeatView). s.number) first, ap (λ (s : SeatView). s.list) first)
