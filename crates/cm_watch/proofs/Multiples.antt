-- A multiple of a time lies between two others exactly where the later is behind more of them.
use Rattle.std.proofs.Common.{◌≡◌, ℕ, ◌+◌, ◌*◌, ◌/◌, ◌&&◌, ◌<◌, ◌≤◌, true, add-mul, arith, div-mul-le_self, mul-le-mul_right, nat_lt, one-mul}
use Rattle.std.proofs.lemmas.Grind.{common_steps}
use Rattle.std.proofs.Math.Nat.{lt-div-mul-add}
use Rattle.std.proofs.lemmas.Nat.{div_below, le-div}
use Rattle.cm_nmt.proofs.Both.{and_right}
use Rattle.cm_watched.specs.Beats.{IsAtMultiples}

-- what is tested so is so
below : (a b : ℕ) → nat_lt a b ≡ true → a < b
below a b is = grind (arith, common_steps)

tested : (h a b : ℕ) → 0 < h → a < b → (nat_lt 0 h && nat_lt a b) ≡ true
tested h a b some is = grind (arith, common_steps)

-- t is before each multiple of h that is behind more of them than t is
before : (h t k : ℕ) → 0 < h → t / h < k → t < k * h
before h t k some more =
    let under : t < t / h * h + h = lt-div-mul-add {a = t} {b = h} some in
    let up : t / h + 1 ≤ k = omega arith in
    omega (arith, under, mul-le-mul_right h up, add-mul (t / h) 1 h, one-mul h)

pub at_multiples : IsAtMultiples
at_multiples h t now some = (
  λ due. (now / h, before h t (now / h) some (below (t / h) (now / h) (and_right (nat_lt 0 h) (nat_lt (t / h) (now / h)) due)), div-mul-le_self now h),
  λ between. tested h (t / h) (now / h) some
      (let low : t / h < between.0 = div_below t h between.0 some between.1 in
      let high : between.0 ≤ now / h = le-div between.0 now h some between.2 in
      omega arith),
)
