-- What is found in a list, and where.
use Rattle.std.proofs.Common.{◌≡◌, ◌∙◌, ℕ, zero, suc, ◌+◌, ◌<◌, ◌≤◌, Bool, true, false, cond, not, ◌||◌, List, [], ◌∷◌, length, ltb, map, refl, ap, ap₂, sym, arith, Some, None, is_some, take, get_or, ltb-false, true≢false}
use Rattle.std.proofs.lemmas.Bool.{or_parts}
use Rattle.std.proofs.lemmas.List.{length-map}
use Rattle.std.proofs.lemmas.List.Folds.{list_any_at, list_any_none}
use Rattle.std.proofs.lemmas.List.Quantifiers.{position-Some}
use Rattle.std.proofs.lemmas.List.Sums.{fails_before_first}
use Rattle.std.specs.Prelude.{Option, IsSomeAnd, Contains}
use Rattle.std.specs.List.{find, list_any, position, position_or_len, prefix_len, slice_get}

-- none passes what nothing passes
pub none_pass : {X : Type 0} (p : X → Bool) → ((x : X) → p x ≡ false) → (xs : List X) → list_any p xs ≡ false
none_pass p each [] = refl
none_pass p each (x ∷ xs) = ap (λ b. b || list_any p xs) (each x) ∙ none_pass p each xs

prefix_map : {X Y : Type 0} (q : Y → Bool) (f : X → Y) (xs : List X) → prefix_len (λ x. q (f x)) xs ≡ prefix_len q (map f xs)
prefix_map q f [] = refl
prefix_map q f (x ∷ xs) = ap (λ n. cond (q (f x)) (1 + n) 0) (prefix_map q f xs)

-- the first of what the elements of a list stand for
pub position_map : {X Y : Type 0} (p : Y → Bool) (f : X → Y) (xs : List X) → position (λ x. p (f x)) xs ≡ position p (map f xs)
position_map p f xs = ap₂ (λ n l. cond (ltb n l) (Some n) None) (prefix_map (λ y. not (p y)) f xs) (sym (length-map xs f))

cond_none : (b : Bool) (n : ℕ) → cond b (Some n) None ≡ None → b ≡ false
cond_none true n e = cc
cond_none false n e = refl

-- where none is found none passes
pub none_found : {X : Type 0} (p : X → Bool) (xs : List X) → position p xs ≡ None → list_any p xs ≡ false
none_found p xs e =
    let far = ltb-false (position_or_len p xs) (length xs) (cond_none _ _ e) in
    list_any_none p xs (λ k d l. fails_before_first p xs k d (omega arith))

at_index : {X : Type 0} (p : X → Bool) (xs : List X) (i : ℕ) (d : X) → i < length xs → p (get_or xs i d) ≡ true → IsSomeAnd (slice_get xs i) (λ x. p x ≡ true)
at_index p [] i d l h = absurd (omega arith)
at_index p (x ∷ xs) zero d l h = h
at_index p (x ∷ xs) (suc i) d l h = at_index p xs i d (omega arith) h

-- the element that is found passes
pub found_passes : {X : Type 0} (p : X → Bool) (xs : List X) (i : ℕ) → Some i ≡ position p xs → IsSomeAnd (slice_get xs i) (λ x. p x ≡ true)
found_passes p [] i e = absurd (true≢false (ap is_some e))
found_passes p (x ∷ xs) i e = let found = position-Some p (x ∷ xs) i x (sym e) in at_index p (x ∷ xs) i x found.0 found.1

-- and so some passes
pub found_any : {X : Type 0} (p : X → Bool) (xs : List X) (i : ℕ) → Some i ≡ position p xs → list_any p xs ≡ true
found_any p [] i e = absurd (true≢false (ap is_some e))
found_any p (x ∷ xs) i e = let found = position-Some p (x ∷ xs) i x (sym e) in list_any_at p (x ∷ xs) i x found.0 found.1

-- where none is found none of the first passes
pub none_before : {X : Type 0} (p : X → Bool) (xs : List X) (i : ℕ) → list_any p xs ≡ false → list_any p (take i xs) ≡ false
none_before p xs zero e = refl
none_before p [] (suc i) e = refl
none_before p (x ∷ xs) (suc i) e = let parts = or_parts (p x) (list_any p xs) e in ap (λ b. b || list_any p (take i xs)) parts.0 ∙ none_before p xs i parts.1

or_true : (b c : Bool) → c ≡ true → (b || c) ≡ true
or_true true c e = refl
or_true false c e = e

any_in : {X : Type 0} (p : X → Bool) (xs : List X) (j i : ℕ) (d : X) → j < length xs → j < i → p (get_or xs j d) ≡ true → list_any p (take i xs) ≡ true
any_in p [] j i d a l h = absurd (omega arith)
any_in p (x ∷ xs) j zero d a l h = absurd (omega arith)
any_in p (x ∷ xs) zero (suc i) d a l h = ap (λ b. b || list_any p (take i xs)) h
any_in p (x ∷ xs) (suc j) (suc i) d a l h = or_true (p x) _ (any_in p xs j i d (omega arith) (omega arith) h)

-- what is found before an index
pub found_before : {X : Type 0} (p : X → Bool) (xs : List X) (j i : ℕ) → Some j ≡ position p xs → j < i → list_any p (take i xs) ≡ true
found_before p [] j i e l = absurd (true≢false (ap is_some e))
found_before p (x ∷ xs) j i e l = let found = position-Some p (x ∷ xs) j x (sym e) in any_in p (x ∷ xs) j i x found.0 l found.1

none_in : {X : Type 0} (p : X → Bool) (xs : List X) (i : ℕ) (d : X) → ((k : ℕ) → k < i → p (get_or xs k d) ≡ false) → list_any p (take i xs) ≡ false
none_in p xs zero d h = refl
none_in p [] (suc i) d h = refl
none_in p (x ∷ xs) (suc i) d h = ap (λ b. b || list_any p (take i xs)) (h 0 (omega arith)) ∙ none_in p xs i d (λ k a. h (suc k) (omega arith))

-- and what isn't
pub not_before : {X : Type 0} (p : X → Bool) (xs : List X) (j i : ℕ) → Some j ≡ position p xs → i ≤ j → list_any p (take i xs) ≡ false
not_before p [] j i e l = absurd (true≢false (ap is_some e))
not_before p (x ∷ xs) j i e l = let found = position-Some p (x ∷ xs) j x (sym e) in none_in p (x ∷ xs) i x (λ k a. found.2 k (omega arith))

some_there : {X : Type 0} (x : X) (b c : Bool) (o : Option X) → is_some o ≡ c → is_some (cond b (Some x) o) ≡ (b || c)
some_there x true c o e = refl
some_there x false c o e = e

-- the first that passes is there exactly where some passes
pub find_any : {X : Type 0} (p : X → Bool) (xs : List X) → is_some (find p xs) ≡ list_any p xs
find_any p [] = refl
find_any p (x ∷ xs) = some_there x (p x) (list_any p xs) (find p xs) (find_any p xs)

same_some : {A : Type 0} (a b : A) → Some a ≡ Some b → a ≡ b
same_some a b e = cc

-- it passes, and is one of them
abbrev Found : {X : Type 0} → (X → Bool) → List X → X → Type 0
Found p xs y = (p y ≡ true) × Contains xs y

found_here : {X : Type 0} (p : X → Bool) (x : X) (xs : List X) (y : X) (b : Bool) → p x ≡ b → Some y ≡ cond b (Some x) (find p xs)
    → (Some y ≡ find p xs → Found p xs y) → Found p (x ∷ xs) y
found_here p x xs y true h e more = (ap p (same_some y x e) ∙ h, (0, omega arith, sym (same_some y x e)))
found_here p x xs y false h e more = let m = more e in (m.0, (suc m.1.0, omega (arith, m.1.1), m.1.2))

-- what is found passes, and is one of them
pub find_passes : {X : Type 0} (p : X → Bool) (xs : List X) (y : X) → Some y ≡ find p xs → (p y ≡ true) × Contains xs y
find_passes p [] y e = absurd (true≢false (ap is_some e))
find_passes p (x ∷ xs) y e = found_here p x xs y (p x) refl e (find_passes p xs y)
