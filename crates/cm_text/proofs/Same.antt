-- Words that are compared byte by byte.
use Rattle.std.proofs.Common.{◌≡◌, ℕ, zero, suc, ◌+◌, ◌<◌, Bool, true, false, ◌&&◌, eqb, List, [], ◌∷◌, length, get_or, take, refl, arith}
use Rattle.std.specs.Prelude.{bytes_eq}

and_true : (b : Bool) → (b && true) ≡ b
and_true true = refl
and_true false = refl

and_then : (a b c d : Bool) → b ≡ (c && d) → (a && b) ≡ ((a && c) && d)
and_then true b c d e = e
and_then false b c d e = refl

same_suc : (at : ℕ) (v w : List ℕ) → at < length v → at < length w → bytes_eq (take (suc at) v) (take (suc at) w) ≡ (bytes_eq (take at v) (take at w) && eqb (get_or v at 0) (get_or w at 0))
same_suc at [] w p q = absurd (omega (arith, p))
same_suc at (b ∷ v) [] p q = absurd (omega (arith, q))
same_suc zero (b ∷ v) (c ∷ w) p q = and_true (eqb b c)
same_suc (suc at) (b ∷ v) (c ∷ w) p q = and_then (eqb b c) _ _ _ (same_suc at v w (omega (arith, p)) (omega (arith, q)))

-- two words are the same one byte further where they are so far, and in that byte
pub same_more : (at : ℕ) (v w : List ℕ) → at < length v → at < length w → bytes_eq (take (at + 1) v) (take (at + 1) w) ≡ (bytes_eq (take at v) (take at w) && eqb (get_or v at 0) (get_or w at 0))
same_more at v w p q = let e : at + 1 ≡ suc at = omega arith in rw e (same_suc at v w p q)
