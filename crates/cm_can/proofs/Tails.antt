-- What stands behind the `#` of a remote frame.
use Rattle.std.proofs.Common.{◌≡◌, ◌≤◌, ◌+◌, ◌-◌, ℕ, List, [], ◌∷◌, drop, take, get_or, length, arith}
use Rattle.std.proofs.lemmas.List.{take_all}
use mathlib.Core.Logic.{inr}
use Rattle.cm_can.specs.Lines.{IsRemoteTail}

counted : (letter : ℕ) (rest : List ℕ) → letter ≡ 82 → length rest ≡ 1 → 48 ≤ get_or rest 0 0 → get_or rest 0 0 ≤ 56 → IsRemoteTail (letter ∷ rest)
counted letter [] is one low high = absurd (omega arith)
counted letter (n ∷ []) is one low high =
    let digit : n ≡ 48 + (n - 48) = omega (arith, low) in
    let text : letter ∷ n ∷ [] ≡ 82 ∷ (48 + (n - 48)) ∷ [] = cc in
    inr (n - 48, omega (arith, high), text)
counted letter (n ∷ m ∷ ms) is one low high = absurd (omega arith)

-- `R` and one digit, 0 to 8
pub remote_tail : (tail : List ℕ) → 1 ≤ length tail → get_or tail 0 0 ≡ 82 → length (take (length tail - 1) (drop 1 tail)) ≡ 1 → 48 ≤ get_or (take (length tail - 1) (drop 1 tail)) 0 0 → get_or (take (length tail - 1) (drop 1 tail)) 0 0 ≤ 56 → IsRemoteTail tail
remote_tail [] long is one low high = absurd (omega arith)
remote_tail (letter ∷ rest) long is one low high =
    let all : take (length (letter ∷ rest) - 1) rest ≡ rest = take_all (length (letter ∷ rest) - 1) rest (omega arith) in
    counted letter rest is (rw all at one) (rw all at low) (rw all at high)
