-- Steps for the nodes that are chosen, as a loop finds them.
use Rattle.std.proofs.Common.{◌≡◌, ◌∙◌, ℕ, ◌+◌, ◌-◌, ◌≤◌, ◌<◌, zero, suc, Bool, true, false, cond, List, [], ◌∷◌, ◌++◌, ap, sym, refl, arith, map, length, append_assoc, append-nil}
use Rattle.std.specs.List.{filter, range_with_len}
use Rattle.cm_history.specs.History.{is_empty}
use Rattle.cm_nmt.specs.Listing.{node_ids}
use Rattle.std.proofs.lemmas.List.{map-append}
use Rattle.cm_netlist.proofs.Listed.{found_more}
use Rattle.cm_nmt.proofs.Ids.{count_one, unfold_ids}

-- what a loop has given, after a node that is chosen
pub chosen : {B : Type 0} (f : ℕ → B) (p : ℕ → Bool) (i : ℕ) (before xs ys : List B) → 1 ≤ i → xs ≡ before ++ map f (filter p (range_with_len 1 (i - 1))) → p i ≡ true → ys ≡ xs ++ f i ∷ []
    → ys ≡ before ++ map f (filter p (range_with_len 1 (i + 1 - 1)))
chosen f p i before xs ys positive was chose is =
    let grown = ap (λ (zs : List ℕ). before ++ map f zs) (found_more p i positive) in
    let parts = map-append f (filter p (range_with_len 1 (i - 1))) (cond (p i) (i ∷ []) []) in
    let one = ap (λ b. map f (cond b (i ∷ []) [])) chose in
    is ∙ ap (λ zs. zs ++ f i ∷ []) was ∙ append_assoc before (map f (filter p (range_with_len 1 (i - 1)))) (f i ∷ [])
    ∙ sym (grown ∙ ap (λ zs. before ++ zs) (parts ∙ ap (λ zs. map f (filter p (range_with_len 1 (i - 1))) ++ zs) one))

-- the same, after one that isn't
pub passed : {B : Type 0} (f : ℕ → B) (p : ℕ → Bool) (i : ℕ) (before xs ys : List B) → 1 ≤ i → xs ≡ before ++ map f (filter p (range_with_len 1 (i - 1))) → p i ≡ false → ys ≡ xs
    → ys ≡ before ++ map f (filter p (range_with_len 1 (i + 1 - 1)))
passed f p i before xs ys positive was left_out is =
    let grown = ap (λ (zs : List ℕ). before ++ map f zs) (found_more p i positive) in
    let none = ap (λ b. before ++ map f (filter p (range_with_len 1 (i - 1)) ++ cond b (i ∷ []) [])) left_out in
    is ∙ was ∙ sym (grown ∙ none ∙ ap (λ (zs : List ℕ). before ++ map f zs) (append-nil (filter p (range_with_len 1 (i - 1)))))

-- what it has given at its end
pub all_given : {B : Type 0} (f : ℕ → B) (p : ℕ → Bool) (i : ℕ) (before xs : List B) → i ≡ 128 → xs ≡ before ++ map f (filter p (range_with_len 1 (i - 1))) → xs ≡ before ++ map f (filter p node_ids)
all_given f p i before xs e was = was ∙ ap (λ n. before ++ map f (filter p (range_with_len 1 (n - 1)))) e ∙ ap (λ zs. before ++ map f (filter p zs)) (sym unfold_ids)

-- no node was chosen yet, nor is this one
pub none_more : (p : ℕ → Bool) (i : ℕ) → 1 ≤ i → filter p (range_with_len 1 (i - 1)) ≡ [] → p i ≡ false → filter p (range_with_len 1 (i + 1 - 1)) ≡ []
none_more p i positive was left_out =
    found_more p i positive ∙ ap (λ zs. zs ++ cond (p i) (i ∷ []) []) was ∙ ap (λ b. cond b (i ∷ []) []) left_out

-- none was chosen at all
pub none_chosen : (p : ℕ → Bool) (i : ℕ) → i ≡ 128 → filter p (range_with_len 1 (i - 1)) ≡ [] → is_empty (filter p node_ids) ≡ true
none_chosen p i e was =
    ap (λ zs. is_empty (filter p zs)) unfold_ids ∙ ap (λ n. is_empty (filter p (range_with_len 1 (n - 1)))) (sym e) ∙ ap is_empty was

not_empty : (xs : List ℕ) → 1 ≤ length xs → is_empty xs ≡ false
not_empty [] some = absurd (omega (arith, some))
not_empty (x ∷ xs) some = refl

-- one is chosen
pub one_chosen : (p : ℕ → Bool) (i : ℕ) → 1 ≤ i → i < 128 → p i ≡ true → is_empty (filter p node_ids) ≡ false
one_chosen p i low high chose = not_empty (filter p node_ids) (count_one p i low high chose)

-- tests that agree on the numbers of nodes choose the same
same_in_range : (p q : ℕ → Bool) → ((i : ℕ) → 1 ≤ i → i < 128 → p i ≡ q i) → (a n : ℕ) → 1 ≤ a → a + n ≤ 128 → filter p (range_with_len a n) ≡ filter q (range_with_len a n)
same_in_range p q same a zero low high = refl
same_in_range p q same a (suc n) low high =
    let rest = same_in_range p q same (a + 1) n (omega arith) (omega arith) in
    let here : p a ≡ q a = same a low (omega arith) in
    ap (λ b. cond b (a ∷ filter p (range_with_len (a + 1) n)) (filter p (range_with_len (a + 1) n))) here
    ∙ ap (λ zs. cond (q a) (a ∷ zs) zs) rest

pub same_chosen : (p q : ℕ → Bool) → ((i : ℕ) → 1 ≤ i → i < 128 → p i ≡ q i) → filter p node_ids ≡ filter q node_ids
same_chosen p q same = ap (filter p) unfold_ids ∙ same_in_range p q same 1 127 (omega arith) (omega arith) ∙ sym (ap (filter q) unfold_ids)

-- functions that agree on the numbers of nodes make the same of the chosen ones
mapped_in_range : {B : Type 0} (f g : ℕ → B) (p : ℕ → Bool) → ((i : ℕ) → 1 ≤ i → i < 128 → f i ≡ g i) → (a n : ℕ) → 1 ≤ a → a + n ≤ 128 → map f (filter p (range_with_len a n)) ≡ map g (filter p (range_with_len a n))
mapped_in_range f g p same a zero low high = refl
mapped_in_range f g p same a (suc n) low high =
    let rest = mapped_in_range f g p same (a + 1) n (omega arith) (omega arith) in
    let here : f a ≡ g a = same a low (omega arith) in
    elim (p a) as (λ b. map f (cond b (a ∷ filter p (range_with_len (a + 1) n)) (filter p (range_with_len (a + 1) n))) ≡ map g (cond b (a ∷ filter p (range_with_len (a + 1) n)) (filter p (range_with_len (a + 1) n)))) [
      | true ↦ ap (λ y. y ∷ map f (filter p (range_with_len (a + 1) n))) here ∙ ap (λ ys. g a ∷ ys) rest
      | false ↦ rest
    ]

pub same_mapped : {B : Type 0} (f g : ℕ → B) (p : ℕ → Bool) → ((i : ℕ) → 1 ≤ i → i < 128 → f i ≡ g i) → map f (filter p node_ids) ≡ map g (filter p node_ids)
same_mapped f g p same = ap (λ (xs : List ℕ). map f (filter p xs)) unfold_ids ∙ mapped_in_range f g p same 1 127 (omega arith) (omega arith) ∙ sym (ap (λ (xs : List ℕ). map g (filter p xs)) unfold_ids)
