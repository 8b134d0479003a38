-- A set with a node put in, or taken out: its bits, and how many nodes it has.
use mir.Val.{bool_byte}
use Rattle.std.proofs.Common.{◌≡◌, ℕ, zero, suc, ◌+◌, ◌-◌, ◌*◌, ◌%◌, ◌^◌, ◌≤◌, ◌<◌, List, [], ◌∷◌, length, refl, ap, sym, ◌∙◌, arith, cond, Bool, true, false, not, ◌&&◌, ◌||◌, inl, inr, bit_and, bit_or}
use Rattle.std.specs.Prelude.{◌==◌, filter}
use Rattle.std.specs.Int.{bit_at, w128}
use Rattle.std.specs.List.{range_with_len}
use Rattle.std.proofs.lemmas.Bool.{cases_eq, cases_lt, cases_order, ne_eqb, eq-eqb}
use Rattle.std.proofs.lemmas.Nat.Bits.{bit_at-zero, bit_at_and, bit_at_above, bit_at_set_same, bit_at_set_other, bit_at_clear_same, bit_at_clear_other}
use Rattle.std.proofs.Math.Bool.{and-true, and-false}
use Rattle.cm_nmt.specs.Listing.{node_ids}
use Rattle.cm_nmt.proofs.Ids.{unfold_ids, count_most, count_one}
use Rattle.cm_history.specs.History.{is_empty}
use Rattle.cm_history.proofs.OpenSlaves.{filter_twice}

-- ---- bits

-- bit i of n is 1
abbrev pub is_set : ℕ → ℕ → Bool
is_set n i = bit_at n i == 1

-- `n | 1 << k` at 128 bits
abbrev pub with_bit : ℕ → ℕ → ℕ
with_bit n k = bit_or n (1 * 2 ^ k % 2 ^ 128)

-- `n & !(1 << k)` at 128 bits
abbrev pub without_bit : ℕ → ℕ → ℕ
without_bit n k = bit_and n (2 ^ 128 - 1 - 1 * 2 ^ k % 2 ^ 128)

-- the bits once bit k is set
pub set_with : (n k i : ℕ) → k < 128 → is_set (with_bit n k) i ≡ (k == i || is_set n i)
set_with n k i low = elim (cases_eq k i) [
  | inl here ↦ rw (eq-eqb k i here) (ap (λ (j : ℕ). is_set (with_bit n k) j) (sym here) ∙ ap (λ (b : ℕ). b == 1) (bit_at_set_same w128 n k low))
  | inr other ↦ rw (ne_eqb k i other) (ap (λ (b : ℕ). b == 1) (bit_at_set_other w128 n k low i (λ e. other (sym e))))
]

-- a number of 128 bits has none above
none_above : (n m i : ℕ) → n < 2 ^ 128 → 128 ≤ i → bit_at (bit_and n m) i ≡ bit_at n i
none_above n m i small high =
    let none : bit_at n i ≡ 0 = bit_at_above n 128 i small high in
    omega (arith, bit_at_and n m i, none)

-- the bits once bit k is cleared
pub set_without : (n k i : ℕ) → n < 2 ^ 128 → k < 128 → is_set (without_bit n k) i ≡ (not (k == i) && is_set n i)
set_without n k i small low = elim (cases_eq k i) [
  | inl here ↦ rw (eq-eqb k i here) (ap (λ (j : ℕ). is_set (without_bit n k) j) (sym here) ∙ ap (λ (b : ℕ). b == 1) (bit_at_clear_same w128 n k low))
  | inr other ↦ rw (ne_eqb k i other) (ap (λ (b : ℕ). b == 1) (elim (cases_lt i 128) [
    | inl within ↦ bit_at_clear_other w128 n k low i within (λ e. other (sym e))
    | inr high ↦ none_above n (2 ^ 128 - 1 - 1 * 2 ^ k % 2 ^ 128) i small high
  ]))
]

-- ---- how many of the node-IDs pass, where one of them is changed

-- none is counted where none passes
none_of : (p : ℕ → Bool) → ((i : ℕ) → p i ≡ false) → (xs : List ℕ) → 0 ≡ length (filter p xs)
none_of p none [] = refl
none_of p none (x ∷ xs) = rw (none x) (none_of p none xs)

-- no node is in the empty set
pub none_counted : 0 ≡ length (filter (is_set 0) node_ids)
none_counted = none_of (is_set 0) (λ i. ap (λ (b : ℕ). b == 1) (bit_at-zero i)) node_ids

-- 1 for true
abbrev pub one_if : Bool → ℕ
one_if b = cond b 1 0

-- a `bool` as a byte
pub as_byte : (b : Bool) → bool_byte b ≡ one_if b
as_byte true = refl
as_byte false = refl

cons_counted : (b : Bool) (x : ℕ) (xs : List ℕ) → length (cond b (x ∷ xs) xs) ≡ one_if b + length xs
cons_counted true x xs = omega arith
cons_counted false x xs = omega arith

-- the two agree but at i
abbrev pub AgreeBut : ℕ → (ℕ → Bool) → (ℕ → Bool) → Type 0
AgreeBut i p q = (j : ℕ) → (i == j) ≡ false → p j ≡ q j

above : (p q : ℕ → Bool) (i : ℕ) → AgreeBut i p q → (a n : ℕ) → i < a → filter p (range_with_len a n) ≡ filter q (range_with_len a n)
above p q i h a zero low = refl
above p q i h a (suc n) low =
    let here : p a ≡ q a = h a (ne_eqb i a (λ e. absurd (omega (arith, e, low)))) in
    rw (here, above p q i h (a + 1) n (omega (arith, low))) refl

inside : (p q : ℕ → Bool) (i : ℕ) → AgreeBut i p q → (a n : ℕ) → a ≤ i → i < a + n
    → length (filter q (range_with_len a n)) + one_if (p i) ≡ length (filter p (range_with_len a n)) + one_if (q i)
inside p q i h a zero low high = absurd (omega (arith, low, high))
inside p q i h a (suc n) low high =
    let counted_p : length (filter p (range_with_len a (suc n))) ≡ one_if (p a) + length (filter p (range_with_len (a + 1) n)) = cons_counted (p a) a (filter p (range_with_len (a + 1) n)) in
    let counted_q : length (filter q (range_with_len a (suc n))) ≡ one_if (q a) + length (filter q (range_with_len (a + 1) n)) = cons_counted (q a) a (filter q (range_with_len (a + 1) n)) in
    elim (cases_order a i) [
      | inl at ↦
          let rest : length (filter p (range_with_len (a + 1) n)) ≡ length (filter q (range_with_len (a + 1) n)) = ap length (above p q i h (a + 1) n (omega (arith, at))) in
          let same_p : one_if (p a) ≡ one_if (p i) = ap (λ (k : ℕ). one_if (p k)) at in
          let same_q : one_if (q a) ≡ one_if (q i) = ap (λ (k : ℕ). one_if (q k)) at in
          omega (arith, counted_p, counted_q, rest, same_p, same_q)
      | inr (inl more) ↦
          let head : one_if (p a) ≡ one_if (q a) = ap one_if (h a (ne_eqb i a (λ e. absurd (omega (arith, e, more))))) in
          let rest = inside p q i h (a + 1) n (omega (arith, more)) (omega (arith, high)) in
          omega (arith, counted_p, counted_q, rest, head)
      | inr (inr less) ↦ absurd (omega (arith, less, low))
    ]

-- one node changes the count by itself
recounted : (p q : ℕ → Bool) (i : ℕ) → AgreeBut i p q → 1 ≤ i → i < 128
    → length (filter q node_ids) + one_if (p i) ≡ length (filter p node_ids) + one_if (q i)
unfolding node_ids
recounted p q i h low high = inside p q i h 1 127 low (omega (arith, high))

-- ---- how many nodes a set has

-- a set has 127 nodes at most
pub most_counted : (n : ℕ) → length (filter (is_set n) node_ids) ≤ 127
most_counted n = omega (arith, count_most (is_set n) 127, ap (λ (xs : List ℕ). length (filter (is_set n) xs)) unfold_ids)

-- a set that has a node has one at least
pub least_counted : (n k : ℕ) → 1 ≤ k → k < 128 → is_set n k ≡ true → 1 ≤ length (filter (is_set n) node_ids)
least_counted n k low high there = count_one (is_set n) k low high there

-- a node that a set hasn't makes one more
with_counted : (n k : ℕ) → 1 ≤ k → k < 128 → is_set n k ≡ false
    → length (filter (is_set (with_bit n k)) node_ids) ≡ length (filter (is_set n) node_ids) + 1
with_counted n k low high out =
    let changed = recounted (is_set n) (is_set (with_bit n k)) k (λ j other. sym (set_with n k j high ∙ ap (λ (b : Bool). b || is_set n j) other)) low high in
    let before : one_if (is_set n k) ≡ 0 = ap one_if out in
    let after : one_if (is_set (with_bit n k) k) ≡ 1 = ap one_if (set_with n k k high ∙ ap (λ (b : Bool). b || is_set n k) (eq-eqb k k refl)) in
    omega (arith, changed, before, after)

-- the number of a set with a node put in that it hadn't
pub one_more : (n k number : ℕ) → 1 ≤ k → k < 128 → is_set n k ≡ false → number ≡ length (filter (is_set n) node_ids)
    → number + 1 ≡ length (filter (is_set (with_bit n k)) node_ids)
one_more n k number low high out is = omega (arith, is, with_counted n k low high out)

-- a node that a set has makes one less
without_counted : (n k : ℕ) → n < 2 ^ 128 → 1 ≤ k → k < 128 → is_set n k ≡ true
    → length (filter (is_set (without_bit n k)) node_ids) + 1 ≡ length (filter (is_set n) node_ids)
without_counted n k small low high there =
    let changed = recounted (is_set n) (is_set (without_bit n k)) k (λ j other. sym (set_without n k j small high ∙ ap (λ (b : Bool). not b && is_set n j) other)) low high in
    let before : one_if (is_set n k) ≡ 1 = ap one_if there in
    let after : one_if (is_set (without_bit n k) k) ≡ 0 = ap one_if (set_without n k k small high ∙ ap (λ (b : Bool). not b && is_set n k) (eq-eqb k k refl)) in
    omega (arith, changed, before, after)

-- the number of a set with a node taken out that it had
pub one_less : (n k number : ℕ) → n < 2 ^ 128 → 1 ≤ k → k < 128 → is_set n k ≡ true → number ≡ length (filter (is_set n) node_ids)
    → number - 1 ≡ length (filter (is_set (without_bit n k)) node_ids)
one_less n k number small low high there is = omega (arith, is, without_counted n k small low high there)

-- none is left of n where k are taken just when n is k
same_test : (xs : List ℕ) (n k : ℕ) → length xs + k ≡ n → (n == k) ≡ is_empty xs
same_test [] n k e = eq-eqb n k (omega (arith, e))
same_test (x ∷ xs) n k e = ne_eqb n k (λ z. absurd (omega (arith, e, z)))

-- the test that a set has no node but k
pub none_left : (n k number taken : ℕ) → 1 ≤ k → k < 128 → number ≡ length (filter (is_set n) node_ids) → taken ≡ one_if (is_set n k)
    → (number == taken) ≡ is_empty (filter (λ j. not (k == j)) (filter (is_set n) node_ids))
none_left n k number taken low high is takes =
    let left : ℕ → Bool = λ j. is_set n j && not (k == j) in
    let changed = recounted (is_set n) left k (λ j other. sym (rw other (and-true (is_set n j)))) low high in
    let twice : length (filter (λ j. not (k == j)) (filter (is_set n) node_ids)) ≡ length (filter left node_ids) = ap length (filter_twice (is_set n) (λ j. not (k == j)) left (λ j. refl) node_ids) in
    let here : one_if (left k) ≡ 0 = rw (eq-eqb k k refl) (ap one_if (and-false (is_set n k))) in
    same_test (filter (λ j. not (k == j)) (filter (is_set n) node_ids)) number taken (omega (arith, is, takes, changed, twice, here))
