-- What the digits of bytes say of the bytes.
use Rattle.std.proofs.Common.{◌≡◌, ◌*◌, ◌-◌, ◌<◌, ◌≤◌, ◌∙◌, ℕ, suc, List, [], ◌∷◌, All, drop, take, get_or, length, refl, ap, arith}
use Rattle.std.proofs.lemmas.List.{take_all}
use Rattle.cm_can.specs.Lines.{byte_digits}

pub length-byte_digits : (bs : List ℕ) → length (byte_digits bs) ≡ 2 * length bs
length-byte_digits [] = refl
length-byte_digits (b ∷ bs) = omega (arith, length-byte_digits bs)

-- a text whose first two bytes are the digits of no byte spells no bytes
pub no_first : (text bs : List ℕ) → 2 ≤ length text → All (λ b. b < 256) bs → ((b : ℕ) → b < 256 → get_or text 0 0 ∷ get_or text 1 0 ∷ [] ≡ byte_digits (b ∷ []) → ⊥) → text ≡ byte_digits bs → ⊥
no_first [] bs long small none e = absurd (omega arith)
no_first (high ∷ []) bs long small none e = absurd (omega arith)
no_first (high ∷ low ∷ rest) [] long small none e = absurd (cc)
no_first (high ∷ low ∷ rest) (b ∷ bs) long small none e =
    let first : high ∷ low ∷ [] ≡ byte_digits (b ∷ []) = cc in
    none b (small 0 b (omega arith)) first

-- nor does one of which what stands behind them spells none
pub no_rest : (text bs : List ℕ) → 2 ≤ length text → All (λ b. b < 256) bs → ((more : List ℕ) → All (λ b. b < 256) more → take (length text - 2) (drop 2 text) ≡ byte_digits more → ⊥) → text ≡ byte_digits bs → ⊥
no_rest [] bs long small none e = absurd (omega arith)
no_rest (high ∷ []) bs long small none e = absurd (omega arith)
no_rest (high ∷ low ∷ rest) [] long small none e = absurd (cc)
no_rest (high ∷ low ∷ rest) (b ∷ bs) long small none e =
    let others : rest ≡ byte_digits bs = cc in
    none bs (λ k d l. small (suc k) d (omega arith)) (take_all (length (high ∷ low ∷ rest) - 2) rest (omega arith) ∙ others)

-- nor does a text of more than 16 digits spell eight bytes
pub no_more : (text bs : List ℕ) → 16 < length text → length bs ≤ 8 → text ≡ byte_digits bs → ⊥
no_more text bs long few e = absurd (omega (arith, length-byte_digits bs, ap length e))
