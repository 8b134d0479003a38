-- First entries of lists.
use Rattle.std.proofs.Common.{◌≡◌, ℕ, zero, suc, ◌≤◌, List, [], ◌∷◌, ◌++◌, length, take, drop, refl, ap, ◌∙◌, arith}
use Rattle.std.proofs.lemmas.List.{take-append-drop}
use mathlib.Core.List.{IsPrefix}

pub take_prefix : {A : Type 0} (n : ℕ) (xs : List A) → IsPrefix (take n xs) xs
take_prefix n xs = (drop n xs, take-append-drop n xs)

-- the first entries of a beginning are those of the whole
pub take_same : {A : Type 0} (n : ℕ) (xs ys : List A) → IsPrefix xs ys → n ≤ length xs → take n ys ≡ take n xs
take_same zero xs ys p le = refl
take_same (suc n) [] ys p le = absurd (omega arith)
take_same (suc n) (x ∷ xs) [] p le = absurd (cc (p.1))
take_same (suc n) (x ∷ xs) (y ∷ ys) p le = let t = take_same n xs ys (p.0, cc (p.1)) (omega arith) in cc (p.1, t)

pub take_whole : {A : Type 0} (xs : List A) → take (length xs) xs ≡ xs
take_whole [] = refl
take_whole (x ∷ xs) = ap (λ w. x ∷ w) (take_whole xs)

-- so many first entries as there are
pub take_all : {A : Type 0} (xs : List A) (n : ℕ) → n ≡ length xs → take n xs ≡ xs
take_all xs n is = ap (λ k. take k xs) is ∙ take_whole xs

-- as many entries as a beginning has are that beginning
pub take_begin : {A : Type 0} (xs ys : List A) (n : ℕ) → IsPrefix xs ys → n ≡ length xs → take n ys ≡ xs
take_begin xs ys n p is = ap (λ k. take k ys) is ∙ (take_same (length xs) xs ys p (omega arith) ∙ take_whole xs)

pub drop_whole : {A : Type 0} (xs : List A) → drop (length xs) xs ≡ []
drop_whole [] = refl
drop_whole (x ∷ xs) = drop_whole xs

pub drop_append : {A : Type 0} (k : ℕ) (xs ys : List A) → k ≤ length xs → drop k (xs ++ ys) ≡ drop k xs ++ ys
drop_append zero xs ys le = refl
drop_append (suc k) [] ys le = absurd (omega arith)
drop_append (suc k) (x ∷ xs) ys le = drop_append k xs ys (omega arith)
