-- The lists of several seats.
use Rattle.std.proofs.Common.{◌≡◌, ℕ, suc, ◌+◌, List, [], ◌∷◌, ◌++◌, length, map, sym, ap, ◌∙◌, arith}
use Rattle.std.proofs.lemmas.List.{append-nil, map-append}
use Rattle.cm_register.specs.Handing.{calls_by, calls_in, count_calls}
use Rattle.cm_register.specs.SeatOpening.{fresh_seat, fresh_seats}
use Rattle.cm_register.specs.SeatViews.{SeatView}
use Rattle.cm_register.specs.declared.made.Made.{Made}
use Rattle.cm_register.specs.declared.made.SeatList.{SeatList}

pub count_calls_push : (ss : List SeatView) (s : SeatView) → count_calls (ss ++ s ∷ []) ≡ count_calls ss + length s.list
count_calls_push [] s = omega arith
count_calls_push (t ∷ ss) s = omega (arith, count_calls_push ss s)

pub shows_seats_push : (lists now : List SeatList) (seats : List SeatView) (list : SeatList) (seat : SeatView) → now ≡ lists ++ list ∷ [] → map calls_in lists ≡ map calls_by seats → calls_in list ≡ calls_by seat
    → map calls_in now ≡ map calls_by (seats ++ seat ∷ [])
shows_seats_push lists now seats list seat pushed was is =
    ap (map calls_in) pushed ∙ (map-append calls_in lists (list ∷ []) ∙ (ap (λ (w : List (ℕ × List Made)). w ++ calls_in list ∷ []) was
    ∙ (ap (λ (s : ℕ × List Made). map calls_by seats ++ s ∷ []) is ∙ sym (map-append calls_by seats (seat ∷ [])))))

-- one fresh seat more
pub fresh_push : (n : ℕ) (old now : List SeatView) (s : SeatView) → now ≡ old ++ s ∷ [] → old ≡ fresh_seats n → s ≡ fresh_seat (n + 1) → now ≡ fresh_seats (n + 1)
fresh_push n old now s pushed was is =
    let on : n + 1 ≡ suc n = omega arith in
    pushed ∙ (ap (λ (w : List SeatView). w ++ s ∷ []) was ∙ (ap (λ (x : SeatView). fresh_seats n ++ x ∷ []) is ∙ sym (ap fresh_seats on)))

-- where none is left, all were taken
pub taken_all : (taken left all : List SeatView) → left ≡ [] → taken ++ left ≡ all → taken ≡ all
taken_all taken left all none split =
    sym (append-nil taken) ∙ (ap (λ (w : List SeatView). taken ++ w) (sym none) ∙ split)
