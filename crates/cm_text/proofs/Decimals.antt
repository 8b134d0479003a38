-- A decimal field is read exactly.
use Rattle.std.proofs.Common.{◌≡◌, ℕ, zero, suc, ◌+◌, ◌*◌, ◌^◌, ◌<◌, ◌≤◌, Bool, true, false, cond, List, ◌∷◌, ◌++◌, length, get_or, take, drop, drop-cons, take-append-drop, length-take-le, get_or-take, Some, None, refl, sym, ap, subst, ◌∙◌, arith}
use Rattle.std.specs.Prelude.{decimal}
use Rattle.std.specs.Char.{digit_value}
use Rattle.std.specs.Int.{IsInRange}
use Rattle.std.specs.Str.Parse.{AllDigits, IsNumeral, digits_value}
use Rattle.std.proofs.lemmas.Bool.Decides.{nat_tests}
use Rattle.std.proofs.lemmas.Bool.{leb-true, le-leb, lt-leb}
use Rattle.std.proofs.lemmas.Fmt.{decimal_is_IsNumeral, decimal_digit, first_decimal, decimal-digits_value}
use Rattle.std.proofs.lemmas.Int.Digits.{digits_more, digits_value_more}
use Rattle.std.proofs.lemmas.Str.Parse.{digit_at, digits_value-take-le, digits_value_short, numerals_by_value, tells_digits}
use Rattle.cm_text.specs.Exact.{IsExact}
use Rattle.cm_text.specs.Decimal.{dec_of}
use Rattle.cm_text.proofs.Fronts.{same, same_itself}

both_none : {A : Type 0} (b c : Bool) (x : A) → (b ≡ true → c ≡ true → ⊥) → cond b (cond c (Some x) None) None ≡ None
both_none false c x h = refl
both_none true false x h = refl
both_none true true x h = absurd (h refl refl)

both_some : {A : Type 0} (b c : Bool) (x y : A) → cond b (cond c (Some x) None) None ≡ Some y → (b ≡ true) × (c ≡ true) × (x ≡ y)
both_some false c x y e = absurd cc
both_some true false x y e = absurd cc
both_some true true x y e = (refl, refl, cc)

-- ---- what is read is spelled so, and what is spelled so is read

pub dec_of_none : (most : ℕ) (w : List ℕ) → ((n : ℕ) → n ≤ most → w ≡ decimal n → ⊥) → dec_of most w ≡ None
unfolding dec_of
dec_of_none most w never = both_none _ _ _ (λ p q. never (digits_value 10 w) (leb-true _ _ p) (sym (same _ _ q)))

pub dec_of_decimal : (most n : ℕ) → most < 2 ^ 64 → n ≤ most → dec_of most (decimal n) ≡ Some n
unfolding dec_of
dec_of_decimal most n wide le =
    let value : digits_value 10 (decimal n) ≡ n = (decimal_is_IsNumeral n (omega arith)).1 in
    rw (value, le-leb n most le, same_itself (decimal n)) refl

pub dec_of_takes : (most : ℕ) (w : List ℕ) (n : ℕ) → dec_of most w ≡ Some n → (w ≡ decimal n) × (n ≤ most)
unfolding dec_of
dec_of_takes most w n e =
    let h = both_some _ _ _ _ e in
    (sym (same _ _ h.1) ∙ ap decimal h.2, rw (← h.2) (leb-true _ _ h.0))

pub dec_exact : (most : ℕ) → most < 2 ^ 64 → IsExact decimal (dec_of most) (λ n. n ≤ most)
dec_exact most wide = record { takes = dec_of_takes most; again = λ n le. dec_of_decimal most n wide le }

-- ---- what reads a number digit by digit

-- no number is spelled by bytes that are not all digits
not_numeral : (most : ℕ) (w : List ℕ) → most < 2 ^ 64 → ¬ (IsNumeral 10 w) → dec_of most w ≡ None
not_numeral most w wide bad = dec_of_none most w (λ n le e. bad (subst (IsNumeral 10) (sym e) (decimal_is_IsNumeral n (omega arith)).0))

pub no_digits : (most : ℕ) (w : List ℕ) → most < 2 ^ 64 → length w ≡ 0 → dec_of most w ≡ None
no_digits most w wide empty = not_numeral most w wide (λ h. omega (arith, h.0))

pub other_byte : (most : ℕ) (w : List ℕ) (i : ℕ) → most < 2 ^ 64 → i < length w → ¬ (IsInRange 48 57 (get_or w i 0)) → dec_of most w ≡ None
other_byte most w i wide inside bad = not_numeral most w wide (λ h. bad (digit_at w i h.1 inside))

-- nor by a leading zero
long_zero : (w : List ℕ) (n : ℕ) → n < 2 ^ 64 → get_or w 0 0 ≡ 48 → 1 < length w → w ≡ decimal n → ⊥
long_zero w zero small lead long e = omega (arith, ap length (e ∙ decimal_digit 0 (omega arith)))
long_zero w (suc n) small lead long e = omega (arith, ap (λ (l : List ℕ). get_or l 0 0) e, first_decimal (suc n) (omega arith) small)

pub leading_zero : (most : ℕ) (w : List ℕ) → most < 2 ^ 64 → get_or w 0 0 ≡ 48 → 1 < length w → dec_of most w ≡ None
leading_zero most w wide lead long = dec_of_none most w (λ n le e. long_zero w n (omega arith) lead long e)

-- nor where they are worth too much
pub above_most : (most : ℕ) (w : List ℕ) → most < digits_value 10 w → dec_of most w ≡ None
unfolding dec_of
above_most most w above = rw (lt-leb _ _ above) refl

-- where the first digits are too much, so is the whole
pub too_large : (most : ℕ) (w : List ℕ) (i : ℕ) → i < length w → most < digits_value 10 (take i w) * 10 + digit_value (get_or w i 0) → dec_of most w ≡ None
too_large most w i inside over = above_most most w (omega (arith, digits_value_more 10 w i inside, digits_value-take-le 10 w (i + 1) (omega arith)))

-- digits with no leading zero are read as their value
pub whole_number : (most : ℕ) (w : List ℕ) → most < 2 ^ 64 → AllDigits 10 w → 0 < length w → (get_or w 0 0 ≡ 48 → length w ≡ 1) → digits_value 10 w ≤ most → dec_of most w ≡ Some (digits_value 10 w)
whole_number most w wide digits some lead le =
    let e : decimal (digits_value 10 w) ≡ w = decimal-digits_value (numerals_by_value _ tells_digits) w digits some lead (omega arith) in
    sym (ap (dec_of most) e) ∙ dec_of_decimal most (digits_value 10 w) wide le

-- ---- a number at the front of other bytes

module _ (bytes : List ℕ) (at n : ℕ) (inside : at < length bytes) (digits : AllDigits 10 (take at bytes)) (value : n ≡ digits_value 10 (take at bytes)) where
  pub few_digits : at ≤ 8 → n < 10 ^ 8
  few_digits few = omega (arith, value, digits_value_short (numerals_by_value _ tells_digits) (take at bytes) 8 digits (omega (arith, length-take-le at bytes)))

  -- digits with no leading zero that a space ends
  pub number_ends : 0 < at → at ≤ 8 → (get_or bytes 0 0 ≡ 48 → at ≡ 1) → get_or bytes at 0 ≡ 32 → bytes ≡ decimal n ++ 32 ∷ drop (at + 1) bytes
  number_ends some few lead space =
      let w = take at bytes in
      let long : length w ≡ at = length-take-le at bytes (omega arith) in
      let first : get_or w 0 0 ≡ get_or bytes 0 0 = get_or-take at bytes 0 0 some in
      let spelled : decimal (digits_value 10 w) ≡ w =
      decimal-digits_value (numerals_by_value _ tells_digits) w digits (omega (arith, long)) (λ zero. omega (arith, long, lead (omega (arith, first, zero)))) (omega (arith, value, few_digits few)) in
      let next : at + 1 ≡ suc at = omega arith in
      let tail : drop at bytes ≡ 32 ∷ drop (at + 1) bytes = rw next (drop-cons bytes at 0 inside ∙ ap (λ (b : ℕ). b ∷ drop (suc at) bytes) space) in
      sym (take-append-drop at bytes) ∙ ap (λ (l : List ℕ). w ++ l) tail ∙ ap (λ (l : List ℕ). l ++ (32 ∷ drop (at + 1) bytes)) (sym (ap decimal value ∙ spelled))

-- one digit more
pub one_digit : (bytes : List ℕ) (at n digit : ℕ) → at < length bytes → n ≡ digits_value 10 (take at bytes) → AllDigits 10 (take at bytes) → digit < 10 → get_or bytes at 0 ≡ digit + 48
    → (n * 10 + digit ≡ digits_value 10 (take (at + 1) bytes)) × AllDigits 10 (take (at + 1) bytes)
one_digit bytes at n digit inside value digits small byte =
    let worth : digit_value (get_or bytes at 0) ≡ digit = grind (arith, nat_tests) in
    (omega (arith, worth, digits_value_more 10 bytes at inside, value), digits_more 10 bytes at inside digits (grind (arith, nat_tests)))
