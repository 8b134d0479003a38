-- The seats of a register that was opened.
use Rattle.std.proofs.Common.{◌≡◌, ℕ, zero, suc, ◌+◌, ◌<◌, [], ◌∷◌, length, length-append, arith, refl, ◌∙◌}
use Rattle.cm_register.specs.SeatOpening.{fresh_seat, fresh_seats}

-- there are so many
pub fresh_length : (n : ℕ) → length (fresh_seats n) ≡ n
fresh_length zero = refl
fresh_length (suc n) = length-append (fresh_seats n) (fresh_seat (n + 1) ∷ []) ∙ omega (arith, fresh_length n)

-- where there are to be seats, there is one
pub some_seats : (n : ℕ) → 0 < n → 0 < length (fresh_seats n)
some_seats n more = omega (arith, more, fresh_length n)
