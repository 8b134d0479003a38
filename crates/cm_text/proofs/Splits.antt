-- Where a list is cut first.
use Rattle.std.proofs.Common.{◌≡◌, ℕ, ◌+◌, ◌<◌, ◌≤◌, Bool, true, false, not, cond, ltb, List, [], ◌∷◌, map, length, get_or, take, drop, Option, Some, None, eqb, refl, sym, ap, subst, arith, inl, inr}
use Rattle.std.specs.List.{slice_split, onto_first, position, position_or_len}
use Rattle.std.specs.Option.{is_some}
use Rattle.std.specs.Simd.Lanes.{chunk, mask_l}
use Rattle.std.specs.Int.Count.{count_trailing_zeros}
use Rattle.std.proofs.lemmas.Simd.{length-chunk, trailing_mask_l, run_in_chunk_fails, run_in_chunk_stops}
use Rattle.std.proofs.lemmas.List.Splits.{slice_split_first, length-slice_split}
use Rattle.cm_text.specs.Words.{Words, split}
use Rattle.cm_text.specs.Left.{parts}
use Rattle.cm_text.specs.FieldReading.{is_empty}
use denote.Ref.{Bor}
use Rattle.std.proofs.lemmas.Bool.{cases_Bool, cases_lt, le-ltb, lt-ltb, ltb-true, ltb-false}
use Rattle.std.proofs.lemmas.List.Sums.{position_or_len_is}
use Rattle.memchr.specs.Find.{IsFirstByte, is_byte}

found : (b : Bool) (n k : ℕ) → cond b (Some n) None ≡ Some k → (b ≡ true) × (n ≡ k)
found true n k e = (refl, cc)
found false n k e = absurd cc

unfound : (b : Bool) (n : ℕ) → cond b (Some n) None ≡ None → b ≡ false
unfound true n e = absurd cc
unfound false n e = refl

whole : {X : Type 0} (p : X → Bool) (xs : List X) → length xs ≤ position_or_len p xs → slice_split p xs ≡ xs ∷ []
whole p [] h = refl
whole p (x ∷ xs) h =
    elim (cases_Bool (p x)) [
      | inl t ↦ absurd (omega (arith, rw t at h))
      | inr f ↦ rw f (ap (onto_first x) (whole p xs (omega (arith, rw f at h))))
    ]

-- at a first separator the list is cut in two
pub split_at_place : (p : ℕ → Bool) (xs : List ℕ) (k : ℕ) → position p xs ≡ Some k → slice_split p xs ≡ take k xs ∷ slice_split p (drop (k + 1) xs)
split_at_place p xs k e =
    let h = found (ltb (position_or_len p xs) (length xs)) (position_or_len p xs) k e in
    rw (← h.1) (slice_split_first p xs 0 (ltb-true _ _ h.0))

-- with no separator it stays whole
pub split_nowhere : (p : ℕ → Bool) (xs : List ℕ) → position p xs ≡ None → slice_split p xs ≡ xs ∷ []
split_nowhere p xs e = whole p xs (ltb-false _ _ (unfound (ltb (position_or_len p xs) (length xs)) (position_or_len p xs) e))

some_part : (n : ℕ) (ws : Words) → length ws ≡ n + 1 → is_empty ws ≡ false
some_part n [] e = absurd (omega arith)
some_part n (w ∷ ws) e = refl

-- nothing is left exactly where no bytes are, since even empty bytes are one part
pub none_left : (separator : ℕ) (rest : Option (Bor (List ℕ))) (none : Bool) → is_some rest ≡ not none → none ≡ is_empty (parts separator rest)
none_left separator None true e = refl
none_left separator None false e = absurd cc
none_left separator (Some bytes) true e = absurd cc
none_left separator (Some bytes) false e = sym (some_part _ (split separator bytes.now) (length-slice_split (λ b. eqb b separator) bytes.now))

not_true : (b : Bool) → (b ≡ true → ⊥) → b ≡ false
not_true true never = absurd (never refl)
not_true false never = refl

-- the first place of a byte, as a search finds it
pub first_is_position : (byte : ℕ) (xs : List ℕ) (r : Option ℕ) → IsFirstByte (is_byte byte) xs r → r ≡ position (λ b. eqb b byte) xs
first_is_position byte xs None nowhere =
    let at : position_or_len (λ b. eqb b byte) xs ≡ length xs =
    position_or_len_is (λ b. eqb b byte) xs (length xs) 0 (omega arith) (λ k below. not_true _ (nowhere k (omega arith) below)) (λ below. absurd (omega arith)) in
    rw (at, le-ltb (length xs) (length xs) (omega arith)) refl
first_is_position byte xs (Some k) found =
    let first = found.0 in
    let at : position_or_len (λ b. eqb b byte) xs ≡ k =
    position_or_len_is (λ b. eqb b byte) xs k 0 (omega (arith, first.high)) (λ j below. not_true _ (first.before j (omega arith) below)) (λ below. found.1) in
    rw (at, lt-ltb k (length xs) first.high) refl

-- ---- sixteen bytes at once

-- where no element passes, no bit is set
unmarked : (p : ℕ → Bool) (xs : List ℕ) → length xs ≤ position_or_len p xs → mask_l (map p xs) ≡ 0
unmarked p [] h = refl
unmarked p (x ∷ xs) h =
    elim (cases_Bool (p x)) [
      | inl t ↦ absurd (omega (arith, rw t at h))
      | inr f ↦ rw f (omega (arith, unmarked p xs (omega (arith, rw f at h))))
    ]

-- the lowest bit that is set is the first place
pub lowest_is_position : (p : ℕ → Bool) (xs : List ℕ) → 16 ≤ length xs → 0 < mask_l (map p (chunk 0 16 xs)) → Some (count_trailing_zeros 64 (mask_l (map p (chunk 0 16 xs)))) ≡ position p xs
lowest_is_position p xs room some =
    let part = chunk 0 16 xs in
    let k = count_trailing_zeros 64 (mask_l (map p part)) in
    let long : length part ≡ 16 = length-chunk 0 16 xs room in
    let counted : k ≡ position_or_len p part = trailing_mask_l p 64 part (omega arith) some in
    let short : k < 16 = elim (cases_lt (position_or_len p part) (length part)) [
      | inl lt ↦ omega arith
      | inr ge ↦ absurd (omega (arith, unmarked p part ge))
    ] in
    let at : position_or_len p xs ≡ k =
    position_or_len_is p xs k 0 (omega arith) (λ j below. run_in_chunk_fails p xs 0 16 k 0 room counted j (omega arith) (omega arith)) (λ below. subst (λ (i : ℕ). p (get_or xs i 0) ≡ true) (omega arith) (run_in_chunk_stops p xs 0 16 k 0 room counted short)) in
    rw (at, lt-ltb k (length xs) (omega arith)) refl
