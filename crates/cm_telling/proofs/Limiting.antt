-- Lines each of which was told when one might be are ten in any second.
use Rattle.std.proofs.Common.{◌≡◌, ◌≤◌, ◌<◌, ◌+◌, ◌&&◌, ◌∙◌, ℕ, zero, suc, Bool, true, false, List, [], ◌∷◌, All, Option, Some, None, refl, arith, nat_le, nat_lt, slice_get}
use Rattle.std.proofs.lemmas.Grind.{common_steps}
use Rattle.cm_telling.specs.Limiting.{AreTold, IsTenASecond, is_a_second_old, told_in}

-- one line more is one more at most
one_more : (start t : ℕ) (ts : List ℕ) (n : ℕ) → told_in start ts ≤ n → told_in start (t ∷ ts) ≤ n + 1
one_more start t ts n few = grind (arith, common_steps)

-- a line before the second isn't in it
before : (start t : ℕ) (ts : List ℕ) → t < start → told_in start (t ∷ ts) ≡ told_in start ts
before start t ts early = grind (arith, common_steps)

-- where all are before the second, none is in it
none_in : (start : ℕ) (ts : List ℕ) → All (λ u. u < start) ts → told_in start ts ≡ 0
none_in start [] early = refl
none_in start (t ∷ ts) early = before start t ts (early 0 t (omega arith)) ∙ none_in start ts (λ k d l. early (suc k) d (omega arith))

-- where there are no more than k, no more are in it
few_in : (k start : ℕ) (ts : List ℕ) → slice_get ts k ≡ None → told_in start ts ≤ k
few_in k start [] none = omega arith
few_in zero start (t ∷ ts) none = absurd (cc)
few_in (suc k) start (t ∷ ts) none = omega (arith, one_more start t ts k (few_in k start ts none))

-- nor where the one behind k others is before the second
behind_few : (k start u : ℕ) (ts : List ℕ) → AreTold ts → slice_get ts k ≡ Some u → u < start → told_in start ts ≤ k
behind_few k start u [] told at early = absurd (cc)
behind_few zero start u (t ∷ ts) told at early =
    let here : t ≡ u = cc in
    let first : t < start = omega (arith, here, early) in
    let rest = none_in start ts (λ k d l. omega (arith, told.1 k d l, first)) in
    omega (arith, before start t ts first, rest)
behind_few (suc k) start u (t ∷ ts) told at early = omega (arith, one_more start t ts k (behind_few k start u ts told.2 at early))

-- a line that might be told leaves nine others in its second
nine : (start t : ℕ) (ts : List ℕ) (tenth : Option ℕ) → AreTold ts → slice_get ts 9 ≡ tenth → is_a_second_old tenth t ≡ true → t < start + 1000 → told_in start ts ≤ 9
nine start t ts None told at old late = few_in 9 start ts at
nine start t ts (Some u) told at old late =
    let early : u < start = grind (arith, common_steps) in
    behind_few 9 start u ts told at early

ten_with : (start t : ℕ) (ts : List ℕ) → AreTold (t ∷ ts) → told_in start ts ≤ 10 → (q : Bool) → (nat_le start t && nat_lt t (start + 1000)) ≡ q → told_in start (t ∷ ts) ≤ 10
ten_with start t ts told few false out = grind (arith, common_steps)
ten_with start t ts told few true inside =
    let late : t < start + 1000 = grind (arith, common_steps) in
    one_more start t ts 9 (nine start t ts (slice_get ts 9) told.2 refl told.0 late)

pub ten_a_second : IsTenASecond
ten_a_second [] start told = omega arith
ten_a_second (t ∷ ts) start told = ten_with start t ts told (ten_a_second ts start told.2) _ refl
