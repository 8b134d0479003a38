-- What a loop that keeps what passes a test has kept.
use Rattle.std.proofs.Common.{◌≡◌, ◌+◌, ◌<◌, ℕ, Bool, List, [], ◌∷◌, ◌++◌, cond, get_or, length, take, refl}
use Rattle.std.specs.List.{filter}
use Rattle.std.proofs.lemmas.List.Elements.{filter_more}

-- one turn: the next element is appended where it passes
pub kept_step : (p : ℕ → Bool) (xs : List ℕ) (i : ℕ) (before after : List ℕ) → i < length xs
    → before ≡ filter p (take i xs)
    → after ≡ before ++ cond (p (get_or xs i 0)) (get_or xs i 0 ∷ []) [] → after ≡ filter p (take (i + 1) xs)
kept_step p xs i before after within kept step = rw (filter_more p xs i 0 within, step, kept) refl
