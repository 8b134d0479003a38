-- Beginnings of one list, and lists that are one longer. That each list begins itself, and that a beginning
-- of a beginning is one, is in base.Growing: prefix_refl, prefix_trans.
use Rattle.std.proofs.Common.{◌≡◌, ℕ, zero, suc, ◌+◌, ◌≤◌, List, [], ◌∷◌, ◌++◌, length, Some, slice_get, refl, ap, sym, ◌∙◌, arith, length-append}
use mathlib.Core.List.{IsPrefix}
use base.Growing.{prefix_anti, prefix_refl}

-- of two beginnings of one list the shorter begins the longer
pub prefix_shorter : {A : Type 0} (xs ys zs : List A) → IsPrefix xs zs → IsPrefix ys zs → length xs ≤ length ys → IsPrefix xs ys
prefix_shorter [] ys zs p q le = (ys, refl)
prefix_shorter (x ∷ xs) [] zs p q le = absurd (omega arith)
prefix_shorter (x ∷ xs) (y ∷ ys) [] p q le = absurd (cc (p.1))
prefix_shorter (x ∷ xs) (y ∷ ys) (z ∷ zs) p q le =
    let heads : x ≡ y = cc (p.1, q.1) in
    let rest = prefix_shorter xs ys zs (p.0, cc (p.1)) (q.0, cc (q.1)) (omega arith) in
    (rest.0, cc (heads, rest.1))

-- a beginning as long as the whole is the whole
pub prefix_whole : {A : Type 0} (xs ys : List A) → IsPrefix xs ys → length ys ≤ length xs → xs ≡ ys
prefix_whole xs ys p le = prefix_anti xs ys p (prefix_shorter ys xs ys (prefix_refl ys) p le)

pub prefix_length : {A : Type 0} (xs ys : List A) → IsPrefix xs ys → length xs ≤ length ys
prefix_length xs ys p = omega (arith, sym (ap length p.1) ∙ length-append xs p.0)

-- what stands in a beginning stands in the whole, at the same place
pub prefix_get : {A : Type 0} (xs ys : List A) (k : ℕ) (x : A) → IsPrefix xs ys → slice_get xs k ≡ Some x → slice_get ys k ≡ Some x
prefix_get [] ys k x p h = absurd cc
prefix_get (y ∷ xs) [] k x p h = absurd (cc (p.1))
prefix_get (y ∷ xs) (z ∷ ys) zero x p h = cc (p.1, h)
prefix_get (y ∷ xs) (z ∷ ys) (suc k) x p h = prefix_get xs ys k x (p.0, cc (p.1)) h

-- two lists that end with one element each end with the same one where they are equal
pub last_same : {A : Type 0} (xs ys : List A) (x y : A) → xs ++ x ∷ [] ≡ ys ++ y ∷ [] → x ≡ y
last_same [] [] x y p = cc p
last_same [] (z ∷ ys) x y p = absurd (omega (arith, ap length p, length-append ys (y ∷ [])))
last_same (z ∷ xs) [] x y p = absurd (omega (arith, ap length p, length-append xs (x ∷ [])))
last_same (z ∷ xs) (w ∷ ys) x y p = last_same xs ys x y (cc p)

one_rest : {A : Type 0} (xs rest zs before : List A) (e : A) → length rest ≡ 1 → xs ++ rest ≡ zs → zs ≡ before ++ e ∷ [] → zs ≡ xs ++ e ∷ []
one_rest xs [] zs before e n p q = absurd (omega (arith, n))
one_rest xs (x ∷ []) zs before e n p q = sym p ∙ ap (λ w. xs ++ w ∷ []) (last_same xs before x e (p ∙ q))
one_rest xs (x ∷ y ∷ rest) zs before e n p q = absurd (omega (arith, n))

-- of two beginnings of one list, one of which is one longer: it is the other and its own last element
pub one_longer : {A : Type 0} (xs ys both before : List A) (e : A) → IsPrefix xs both → IsPrefix ys both → length ys ≡ length xs + 1 → ys ≡ before ++ e ∷ [] → ys ≡ xs ++ e ∷ []
one_longer xs ys both before e p q n is =
    let r = prefix_shorter xs ys both p q (omega (arith, n)) in
    one_rest xs r.0 ys before e (omega (arith, n, ap length r.1, length-append xs r.0)) r.1 is
