-- A text that isn't read as a number is none.
use Rattle.std.proofs.Common.{◌≡◌, ℕ, ◌<◌, ◌==◌, ◌||◌, Bool, cond, true, false, List, [], ◌∷◌, Option, Some, None, IfNone, IfSome, length, get_or, refl, sym, ap, subst, ◌∙◌, ◌⊎◌, inl, inr, arith}
use Rattle.std.specs.Char.{digit_value, to_ascii_lowercase}
use Rattle.std.specs.List.{All, count_by}
use Rattle.std.specs.Str.{IsTrimAscii, IsUtf8}
use Rattle.std.specs.Str.Parse.{AllDigits}
use Rattle.std.proofs.lemmas.Bool.{cases_Bool, eqb-true}
use Rattle.std.proofs.lemmas.Bool.Decides.{nat_tests}
use Rattle.std.proofs.lemmas.List.Elements.{All-cons}
use Rattle.std.proofs.lemmas.List.Splits.{length-slice_split}
use Rattle.std.proofs.lemmas.List.Sums.{sum_by-cons}
use Rattle.std.proofs.lemmas.Str.{IsUtf8-from_ascii}
use Rattle.std.proofs.lemmas.Str.Ascii.{IsAscii-from_all}
use Rattle.cm_text.specs.Words.{Words, split}
use Rattle.cm_text.specs.FieldReading.{is_empty}
use Rattle.cm_device.specs.DeviceFiles.{AreSummed, IsBesideId, IsNodeId, IsNoNumber, IsPlain, IsSum, IsWritten, base_and_digits}
use Rattle.cm_device.proofs.DeviceFiles.{one_trim}

-- ---- answers

-- what holds anyhow holds where there is none
pub if_none : {X : Type 0} (r : Option X) (P : Type 0) → P → IfNone r P
if_none None P holds = holds
if_none (Some x) P holds = tt

-- what follows holds where there is none
pub none_if : {X : Type 0} (r : Option X) (P Q : Type 0) → (P → Q) → IfNone r P → IfNone r Q
none_if None P Q more holds = more holds
none_if (Some x) P Q more holds = tt

-- a number of the base and the digits that a text has is one by itself
pub plain_if : (text digits : List ℕ) (base : ℕ) (r : Option ℕ) → base ≡ (base_and_digits text).0 → digits ≡ (base_and_digits text).1
    → IfSome r (λ n. IsWritten base digits n) → IfSome r (λ n. IsPlain text n)
plain_if text digits base r same same_digits is =
    subst (λ (ds : List ℕ). IfSome r (λ n. IsWritten (base_and_digits text).0 ds n)) same_digits (subst (λ (b : ℕ). IfSome r (λ n. IsWritten b digits n)) same is)

pub none_plain : (text digits : List ℕ) (base : ℕ) (r : Option ℕ) → base ≡ (base_and_digits text).0 → digits ≡ (base_and_digits text).1
    → IfNone r ((n : ℕ) → IsWritten base digits n → ⊥) → IfNone r ((n : ℕ) → IsPlain text n → ⊥)
none_plain text digits base r same same_digits none =
    none_if r ((n : ℕ) → IsWritten base digits n → ⊥) ((n : ℕ) → IsPlain text n → ⊥)
    (λ no n is. no n (subst (λ (ds : List ℕ). IsWritten base ds n) (sym same_digits) (subst (λ (b : ℕ). IsWritten b (base_and_digits text).1 n) (sym same) is))) none

-- ---- digits

-- a digit of a base up to 36 is ASCII
digit_low : (c : ℕ) → digit_value c < 36 → c < 128
digit_low c low = grind (arith, nat_tests)

digits_low : (base : ℕ) (ds : List ℕ) → base < 37 → AllDigits base ds → All (λ b. b < 128) ds
digits_low base [] small all = λ k d low. absurd (omega (arith, low))
digits_low base (c ∷ cs) small (low, all) = All-cons (λ b. b < 128) c cs (digit_low c (omega (arith, small, low))) (digits_low base cs small all)

pub digits_utf8 : (base : ℕ) (ds : List ℕ) → base < 37 → AllDigits base ds → IsUtf8 ds
digits_utf8 base ds small all = IsUtf8-from_ascii ds (IsAscii-from_all ds (digits_low base ds small all))

-- a plus is no digit
pub no_plus : (base : ℕ) → base < 37 → digit_value 43 < base → ⊥
no_plus base small low = absurd (omega (arith, small, low))

-- a plus counts for one
abbrev count_plus : ℕ → ℕ
count_plus b = cond (b == 43) 1 0

other_than_plus : (base c : ℕ) → base < 37 → digit_value c < base → count_plus c ≡ 0
other_than_plus base c small low = elim (cases_Bool (c == 43)) [
  | inl is ↦ absurd (no_plus base small (subst (λ d. digit_value d < base) (eqb-true c 43 is) low))
  | inr other ↦ let f : Bool → ℕ = λ v. cond v 1 0 in ap f other
]

no_pluses : (base : ℕ) (ds : List ℕ) → base < 37 → AllDigits base ds → count_by (λ b. b == 43) ds ≡ 0
no_pluses base [] small all = refl
no_pluses base (c ∷ cs) small (low, all) =
    omega (arith, sum_by-cons count_plus c cs, other_than_plus base c small low, no_pluses base cs small all)

hex_mark : (b : ℕ) → (b == 120 || b == 88) ≡ true → count_plus b ≡ 0
hex_mark b is = grind (arith, nat_tests)

zero_mark : (a : ℕ) → (a == 48) ≡ true → count_plus a ≡ 0
zero_mark a is = grind (arith, nat_tests)

-- a number by itself has no plus
plain_has_none : (text : List ℕ) (n : ℕ) → IsPlain text n → count_by (λ b. b == 43) text ≡ 0
plain_has_none [] n is = refl
plain_has_none (a ∷ []) n is = no_pluses 10 (a ∷ []) (omega arith) is.numeral.1
plain_has_none (a ∷ b ∷ rest) n is = elim (cases_Bool (a == 48)) [
  | inr other ↦ no_pluses 10 (a ∷ b ∷ rest) (omega arith) (rw other at is).numeral.1
  | inl zero ↦ elim (cases_Bool (b == 120 || b == 88)) [
    | inl hex ↦ omega (
      arith,
      sum_by-cons count_plus a (b ∷ rest),
      sum_by-cons count_plus b rest,
      zero_mark a zero,
      hex_mark b hex,
      no_pluses 16 rest (omega arith) (rw (zero, hex) at is).numeral.1,
    )
    | inr octal ↦ omega (
      arith,
      sum_by-cons count_plus a (b ∷ rest),
      zero_mark a zero,
      no_pluses 8 (b ∷ rest) (omega arith) (rw (zero, octal) at is).numeral.1,
    )
  ]
]

-- so it is in one part
pub one_part : (text : List ℕ) (n : ℕ) (front back : List ℕ) (others : Words) → split 43 text ≡ front ∷ back ∷ others → IsPlain text n → ⊥
one_part text n front back others parts is =
    absurd (omega (arith, ap length parts, length-slice_split (λ b. b == 43) text, plain_has_none text n is))

-- a text has a part
pub some_part : (text : List ℕ) → split 43 text ≡ [] → ⊥
some_part text none = absurd (omega (arith, ap length none, length-slice_split (λ b. b == 43) text))

-- ---- the node-ID

dollar : (a : ℕ) → to_ascii_lowercase a ≡ 36 → a ≡ 36
dollar a is = grind (arith, nat_tests)

no_dollar : (base : ℕ) → base < 36 → digit_value 36 < base → ⊥
no_dollar base small low = absurd (omega (arith, small, low))

-- what stands for the node-ID is no number by itself
pub id_not_plain : (text : List ℕ) (n : ℕ) → IsNodeId text → IsPlain text n → ⊥
id_not_plain [] n id is = absurd (omega (arith, ap length id))
id_not_plain (a ∷ []) n id is = absurd (omega (arith, ap length id))
id_not_plain (a ∷ b ∷ rest) n id is =
    let first : to_ascii_lowercase a ≡ 36 = ap (λ xs. get_or xs 0 0) id in
    no_dollar 10 (omega arith) (subst (λ c. IsPlain (c ∷ b ∷ rest) n) (dollar a first) is).numeral.1.0

-- two texts have one number beside the node-ID
pub one_beside : (one other : List ℕ) (m n : ℕ) → IsBesideId one other m → IsBesideId one other n → m ≡ n
one_beside one other m n (inl a) (inl b) = a.1.value ∙ sym b.1.value
one_beside one other m n (inl a) (inr b) = absurd (id_not_plain one n a.0 b.1)
one_beside one other m n (inr a) (inl b) = absurd (id_not_plain one m b.0 a.1)
one_beside one other m n (inr a) (inr b) = a.1.value ∙ sym b.1.value

-- ---- sums

-- the two parts of a sum are its texts
pub no_sum : (node : ℕ) (text front back one other : List ℕ) → split 43 text ≡ front ∷ back ∷ [] → IsTrimAscii front one → IsTrimAscii back other
    → ((n : ℕ) → AreSummed node one other n → ⊥) → (n : ℕ) → IsSum node text n → ⊥
no_sum node text front back one other parts p q none n sum =
    let e = sym sum.parts ∙ parts in
    let fronts : sum.front ≡ front = cc in
    let backs : sum.back ≡ back = cc in
    let ones : sum.one ≡ one = one_trim front sum.one one (subst (λ r. IsTrimAscii r sum.one) fronts sum.one_is) p in
    let others : sum.other ≡ other = one_trim back sum.other other (subst (λ r. IsTrimAscii r sum.other) backs sum.other_is) q in
    none n (subst (λ r. AreSummed node one r n) others (subst (λ r. AreSummed node r sum.other n) ones sum.summed))

-- a text of one part, or of three, is no sum
pub one_is_no_sum : (node : ℕ) (text front : List ℕ) → split 43 text ≡ front ∷ [] → (n : ℕ) → IsSum node text n → ⊥
one_is_no_sum node text front parts n sum = absurd (omega (arith, ap length (sym sum.parts ∙ parts)))

pub three_are_no_sum : (node : ℕ) (text front back third : List ℕ) (others : Words) → split 43 text ≡ front ∷ back ∷ third ∷ others → (n : ℕ) → IsSum node text n → ⊥
three_are_no_sum node text front back third others parts n sum = absurd (omega (arith, ap length (sym sum.parts ∙ parts)))

more_are_no_sum : (node : ℕ) (text front back : List ℕ) (ws : Words) → is_empty ws ≡ false → split 43 text ≡ front ∷ back ∷ ws → (n : ℕ) → IsSum node text n → ⊥
more_are_no_sum node text front back [] some parts = absurd cc
more_are_no_sum node text front back (w ∷ ws) some parts = three_are_no_sum node text front back w ws parts

-- a text of more than two parts is no number
pub no_number_of_more : (node : ℕ) (text front back : List ℕ) (ws : Words) → is_empty ws ≡ false → split 43 text ≡ front ∷ back ∷ ws → (IsNodeId text → ⊥) → IsNoNumber node text
no_number_of_more node text front back ws some parts other n (inl sum) = more_are_no_sum node text front back ws some parts n sum
no_number_of_more node text front back ws some parts other n (inr (inl (id, is))) = other id
no_number_of_more node text front back ws some parts other n (inr (inr plain)) = one_part text n front back ws parts plain

-- and one of two parts is none where they are no sum
pub no_number_of_two : (node : ℕ) (text front back one other : List ℕ) → split 43 text ≡ front ∷ back ∷ [] → IsTrimAscii front one → IsTrimAscii back other
    → (IsNodeId text → ⊥) → ((n : ℕ) → AreSummed node one other n → ⊥) → IsNoNumber node text
no_number_of_two node text front back one other parts p q no_id none n (inl sum) = no_sum node text front back one other parts p q none n sum
no_number_of_two node text front back one other parts p q no_id none n (inr (inl (id, is))) = no_id id
no_number_of_two node text front back one other parts p q no_id none n (inr (inr plain)) = one_part text n front back [] parts plain
