-- Counting and comparing over the node-IDs.
use Rattle.std.proofs.Common.{◌≡◌, ℕ, zero, suc, ◌+◌, ◌-◌, ◌≤◌, ◌<◌, List, [], ◌∷◌, ◌++◌, length, refl, ap, sym, ◌∙◌, arith, cond, Bool, true, false, add-zero, length-append}
use Rattle.std.specs.List.{filter, range_with_len}
use Rattle.std.proofs.lemmas.List.Elements.{filter-append}
use Rattle.cm_nmt.specs.Listing.{node_ids}

pub unfold_ids : node_ids ≡ range_with_len 1 127
unfolding node_ids
unfold_ids = refl

-- one node more
pub ids_more : (a n : ℕ) → range_with_len a (suc n) ≡ range_with_len a n ++ (a + n) ∷ []
ids_more a zero = ap (λ (x : ℕ). x ∷ []) (sym (add-zero a))
ids_more a (suc n) =
    let e : (a + 1) + n ≡ a + suc n = omega arith in
    ap (λ (xs : List ℕ). a ∷ xs) (ids_more (a + 1) n ∙ ap (λ (x : ℕ). range_with_len (a + 1) n ++ x ∷ []) e)

one_counted : (p : ℕ → Bool) (x : ℕ) → length (filter p (x ∷ [])) ≡ cond (p x) 1 0
one_counted p x = elim (p x) as (λ b. length (cond b (x ∷ []) []) ≡ cond b 1 0) [ true ↦ refl | false ↦ refl ]

count_after : (p : ℕ → Bool) (a n : ℕ) → length (filter p (range_with_len a (suc n))) ≡ length (filter p (range_with_len a n)) + cond (p (a + n)) 1 0
count_after p a n =
    ap (λ xs. length (filter p xs)) (ids_more a n)
    ∙ ap length (filter-append p (range_with_len a n) ((a + n) ∷ []))
    ∙ length-append (filter p (range_with_len a n)) (filter p ((a + n) ∷ []))
    ∙ ap (λ k. length (filter p (range_with_len a n)) + k) (one_counted p (a + n))

-- one node more is counted, where it passes
pub count_more : (p : ℕ → Bool) (node count : ℕ) → 1 ≤ node → count ≡ length (filter p (range_with_len 1 (node - 1)))
    → length (filter p (range_with_len 1 ((node + 1) - 1))) ≡ count + cond (p node) 1 0
count_more p node count low is =
    let place : 1 + (node - 1) ≡ node = omega arith in
    let next : (node + 1) - 1 ≡ suc (node - 1) = omega arith in
    rw (next, count_after p 1 (node - 1), place, is) refl

cond_small : (b : Bool) → cond b 1 0 ≤ 1
cond_small true = omega arith
cond_small false = omega arith

-- no more pass than there are
pub count_most : (p : ℕ → Bool) (n : ℕ) → length (filter p (range_with_len 1 n)) ≤ n
count_most p zero = omega arith
count_most p (suc n) = omega (arith, count_after p 1 n, count_most p n, cond_small (p (1 + n)))

-- all of them are counted at the end
pub count_all : (p : ℕ → Bool) (node count : ℕ) → node ≡ 128 → count ≡ length (filter p (range_with_len 1 (node - 1))) → count ≡ length (filter p node_ids)
count_all p node count end is =
    let e : node - 1 ≡ 127 = omega arith in
    is ∙ ap (λ n. length (filter p (range_with_len 1 n))) e ∙ ap (λ xs. length (filter p xs)) (sym unfold_ids)

-- more nodes have no fewer that pass
count_grows : (p : ℕ → Bool) (n more : ℕ) → length (filter p (range_with_len 1 n)) ≤ length (filter p (range_with_len 1 (n + more)))
count_grows p n zero = omega (arith, ap (λ (k : ℕ). length (filter p (range_with_len 1 k))) (add-zero n))
count_grows p n (suc more) =
    let e : n + suc more ≡ suc (n + more) = omega arith in
    omega (arith, ap (λ (k : ℕ). length (filter p (range_with_len 1 k))) e, count_after p 1 (n + more), count_grows p n more)

-- one that passes is counted
pub count_one : (p : ℕ → Bool) (node : ℕ) → 1 ≤ node → node < 128 → p node ≡ true → 1 ≤ length (filter p node_ids)
count_one p node low high passes =
    let before : ℕ = length (filter p (range_with_len 1 (node - 1))) in
    let counted : length (filter p (range_with_len 1 ((node + 1) - 1))) ≡ before + 1 =
    count_more p node before low refl ∙ ap (λ (b : Bool). before + cond b 1 0) passes in
    let place : ((node + 1) - 1) + (127 - node) ≡ 127 = omega (arith, low, high) in
    let grown = count_grows p ((node + 1) - 1) (127 - node) in
    omega (arith, counted, grown, ap (λ (k : ℕ). length (filter p (range_with_len 1 k))) place, ap (λ (xs : List ℕ). length (filter p xs)) unfold_ids)

agree_from : (p q : ℕ → Bool) → ((x : ℕ) → x < 128 → p x ≡ q x) → (a n : ℕ) → a + n ≤ 128 → filter p (range_with_len a n) ≡ filter q (range_with_len a n)
agree_from p q h a zero low = refl
agree_from p q h a (suc n) low =
    let here : p a ≡ q a = h a (omega arith) in
    let rest : filter p (range_with_len (a + 1) n) ≡ filter q (range_with_len (a + 1) n) = agree_from p q h (a + 1) n (omega arith) in
    rw (here, rest) refl

-- a filter of the node-IDs looks at no other number
pub agree_on_ids : (p q : ℕ → Bool) → ((x : ℕ) → x < 128 → p x ≡ q x) → filter p node_ids ≡ filter q node_ids
unfolding node_ids
agree_on_ids p q h = agree_from p q h 1 127 (omega arith)
