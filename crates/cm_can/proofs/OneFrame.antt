-- Two frames of one text carry the same.
use Rattle.std.proofs.Common.{◌≡◌, ◌<◌, ◌/◌, ◌%◌, ℕ, suc, List, [], ◌∷◌, All, refl, arith}
use Rattle.cm_text.specs.Hex.{glyph}
use Rattle.cm_can.specs.Lines.{byte_digits, id_digits}

glyph_one : (a b : ℕ) → a < 16 → b < 16 → glyph a ≡ glyph b → a ≡ b
glyph_one a b la lb e = grind arith

byte_one : (a b : ℕ) → a < 256 → b < 256 → glyph (a / 16) ≡ glyph (b / 16) → glyph (a % 16) ≡ glyph (b % 16) → a ≡ b
byte_one a b la lb high low =
    let p = glyph_one (a / 16) (b / 16) (omega (arith, la)) (omega (arith, lb)) high in
    let q = glyph_one (a % 16) (b % 16) (omega arith) (omega arith) low in
    omega (arith, p, q)

pub id_one : (a b : ℕ) → a < 2048 → b < 2048 → id_digits a ≡ id_digits b → a ≡ b
id_one a b la lb e =
    let x : glyph (a / 256) ≡ glyph (b / 256) = cc in
    let y : glyph (a / 16 % 16) ≡ glyph (b / 16 % 16) = cc in
    let z : glyph (a % 16) ≡ glyph (b % 16) = cc in
    let p = glyph_one (a / 256) (b / 256) (omega (arith, la)) (omega (arith, lb)) x in
    let q = glyph_one (a / 16 % 16) (b / 16 % 16) (omega arith) (omega arith) y in
    let r = glyph_one (a % 16) (b % 16) (omega arith) (omega arith) z in
    omega (arith, p, q, r)

pub bytes_one : (xs bs : List ℕ) → All (λ b. b < 256) xs → All (λ b. b < 256) bs → byte_digits xs ≡ byte_digits bs → xs ≡ bs
bytes_one [] [] sa sb e = refl
bytes_one [] (b ∷ bs) sa sb e = absurd (cc)
bytes_one (a ∷ xs) [] sa sb e = absurd (cc)
bytes_one (a ∷ xs) (b ∷ bs) sa sb e =
    let high : glyph (a / 16) ≡ glyph (b / 16) = cc in
    let low : glyph (a % 16) ≡ glyph (b % 16) = cc in
    let tails : byte_digits xs ≡ byte_digits bs = cc in
    let first = byte_one a b (sa 0 a (omega arith)) (sb 0 b (omega arith)) high low in
    let rest = bytes_one xs bs (λ k d l. sa (suc k) d (omega arith)) (λ k d l. sb (suc k) d (omega arith)) tails in
    cc
