-- How a text of three digits and what stands around them falls apart.
use Rattle.std.proofs.Common.{◌≡◌, ◌+◌, ◌-◌, ◌≤◌, ℕ, List, [], ◌∷◌, ◌++◌, drop, take, get_or, length, arith}
use Rattle.std.proofs.lemmas.List.{length-take, take_all}
use mathlib.Core.Logic.{inl, inr}
use Rattle.cm_can.specs.declared.frame.CanFrame.{CanFrame}
use Rattle.cm_can.specs.Frames.{data_of}
use Rattle.cm_can.specs.Lines.{IsAdapterText, IsFrameText, byte_digits, id_digits}

pub few_bytes : (f : CanFrame) → length (data_of f) ≤ 8
few_bytes f = omega (arith, f.fits, length-take f.len f.bytes)

four : (text : List ℕ) → 4 ≤ length text → text ≡ get_or text 0 0 ∷ get_or text 1 0 ∷ get_or text 2 0 ∷ get_or text 3 0 ∷ take (length text - 4) (drop 4 text)
four [] long = absurd (omega arith)
four (a ∷ []) long = absurd (omega arith)
four (a ∷ b ∷ []) long = absurd (omega arith)
four (a ∷ b ∷ c ∷ []) long = absurd (omega arith)
four (a ∷ b ∷ c ∷ d ∷ rest) long = let all = take_all (length (a ∷ b ∷ c ∷ d ∷ rest) - 4) rest (omega arith) in cc

-- the text of a frame is its identifier, `#`, and a rest
pub frame_head : (text : List ℕ) (f : CanFrame) → IsFrameText text f → (tail : List ℕ) × (text ≡ id_digits f.id.number ++ 35 ∷ tail)
frame_head text f (inl w) = (byte_digits (data_of f), w.1)
frame_head text f (inr w) = let tail = w.1 in (tail.0, tail.2)

-- what stands behind its `#` is that rest
pub frame_tail : (text tail : List ℕ) (n : ℕ) → text ≡ id_digits n ++ 35 ∷ tail → take (length text - 4) (drop 4 text) ≡ tail
frame_tail text tail n e = rw e (take_all (length (id_digits n ++ 35 ∷ tail) - 4) tail (omega arith))

-- and it is put together of these
pub frame_whole : (text : List ℕ) (n : ℕ) → 4 ≤ length text → get_or text 3 0 ≡ 35 → get_or text 0 0 ∷ get_or text 1 0 ∷ get_or text 2 0 ∷ [] ≡ id_digits n → text ≡ id_digits n ++ 35 ∷ take (length text - 4) (drop 4 text)
frame_whole text n long mark digits = let whole = four text long in cc

-- the line of a frame is a letter, its identifier, a digit, and a rest
pub line_head : (text : List ℕ) (f : CanFrame) → IsAdapterText text f → (letter : ℕ) × (count : ℕ) × (tail : List ℕ) × (count ≤ 8) × (text ≡ letter ∷ id_digits f.id.number ++ (48 + count) ∷ tail)
line_head text f (inl w) = (116, length (data_of f), byte_digits (data_of f), few_bytes f, w.1)
line_head text f (inr w) = let asked = w.1 in (114, asked.0, [], asked.1, asked.2)

pub line_tail : (text tail : List ℕ) (letter n digit : ℕ) → text ≡ letter ∷ id_digits n ++ digit ∷ tail → take (length text - 5) (drop 5 text) ≡ tail
line_tail text tail letter n digit e = rw e (take_all (length (letter ∷ id_digits n ++ digit ∷ tail) - 5) tail (omega arith))

pub line_whole : (text : List ℕ) (letter n digit : ℕ) → 5 ≤ length text → get_or text 0 0 ≡ letter → get_or text 1 0 ∷ get_or text 2 0 ∷ get_or text 3 0 ∷ [] ≡ id_digits n → get_or text 4 0 ≡ digit → text ≡ letter ∷ id_digits n ++ digit ∷ take (length text - 5) (drop 5 text)
line_whole [] letter n digit long first digits last = absurd (omega arith)
line_whole (l ∷ text) letter n digit long first digits last =
    let whole = four text (omega arith) in
    let rest : length (l ∷ text) - 5 ≡ length text - 4 = omega arith in
    cc
