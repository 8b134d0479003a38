-- A line is cut at its first space in one way.
use Rattle.std.proofs.Common.{◌≡◌, ℕ, suc, List, [], ◌∷◌, ◌++◌, refl, arith}
use Rattle.cm_can.specs.Lines.{HasNoSpace}

-- bytes with a space among them have one
pub no_space : (front behind : List ℕ) → HasNoSpace (front ++ 32 ∷ behind) → ⊥
no_space [] behind none = none 0 0 (omega arith) refl
no_space (b ∷ bs) behind none = no_space bs behind (λ k d l. none (suc k) d (omega arith))

pub same_cut : (front behind other rest : List ℕ) → HasNoSpace front → HasNoSpace other → front ++ 32 ∷ behind ≡ other ++ 32 ∷ rest → (front ≡ other) × (behind ≡ rest)
same_cut [] behind [] rest none nor e = let tails : behind ≡ rest = cc in (refl, tails)
same_cut [] behind (c ∷ cs) rest none nor e = let space : c ≡ 32 = cc in absurd (nor 0 0 (omega arith) space)
same_cut (b ∷ bs) behind [] rest none nor e = let space : b ≡ 32 = cc in absurd (none 0 0 (omega arith) space)
same_cut (b ∷ bs) behind (c ∷ cs) rest none nor e =
    let tails : bs ++ 32 ∷ behind ≡ cs ++ 32 ∷ rest = cc in
    let cut = same_cut bs behind cs rest (λ k d l. none (suc k) d (omega arith)) (λ k d l. nor (suc k) d (omega arith)) tails in
    let heads : b ≡ c = cc in
    let fronts : bs ≡ cs = cut.0 in
    let whole : b ∷ bs ≡ c ∷ cs = cc in
    (whole, cut.1)
