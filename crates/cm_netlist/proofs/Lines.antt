-- Texts that are written item by item.
use Rattle.std.proofs.Common.{◌≡◌, ℕ, ◌+◌, ◌<◌, ◌≤◌, List, [], ap, get_or, length, subst, sym, take, ◌∙◌}
use Rattle.std.specs.Prelude.{Option, flat_map}
use Rattle.std.specs.Io.KnownBytes.{Appends}
use Rattle.std.proofs.KnownBytes.{Appends-trans}
use Rattle.std.proofs.lemmas.List.{flat_map_more, take_all, take_more}

-- what is written of one item more
pub one_more : {X : Type 0} (f : X → List ℕ) (xs : List X) (i : ℕ) (x : X) (a b c : Option (List ℕ)) → i < length xs → x ≡ get_or xs i x
    → Appends a b (flat_map f (take i xs)) → Appends b c (f x) → Appends a c (flat_map f (take (i + 1) xs))
one_more f xs i x a b c low is p q =
    let y = get_or xs i x in
    let both = Appends-trans a b c (flat_map f (take i xs)) (f y) p (subst (λ z. Appends b c (f z)) is q) in
    subst (Appends a c) (flat_map_more f [] (take i xs) y ∙ ap (flat_map f) (sym (take_more xs i x low))) both

-- what is written of all items
pub of_all : {X : Type 0} (f : X → List ℕ) (xs : List X) (i : ℕ) (a b : Option (List ℕ)) → length xs ≤ i
    → Appends a b (flat_map f (take i xs)) → Appends a b (flat_map f xs)
of_all f xs i a b end p = subst (λ ys. Appends a b (flat_map f ys)) (take_all i xs end) p
