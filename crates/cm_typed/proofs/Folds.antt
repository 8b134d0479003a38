-- What is left of a list behind its first items, one item more.
use Rattle.std.proofs.Common.{◌≡◌, ℕ, suc, ◌+◌, ◌<◌, List, ◌∷◌, length, get_or, drop, drop-cons, sym, ap, ◌∙◌, add-one}

-- what is left begins with the item at the place
pub drop_more : {X : Type 0} (xs : List X) (k : ℕ) (x : X) → k < length xs → x ≡ get_or xs k x → drop k xs ≡ x ∷ drop (k + 1) xs
drop_more xs k x lt is = rw add-one (drop-cons xs k x lt ∙ ap (λ y. y ∷ drop (suc k) xs) (sym is))
