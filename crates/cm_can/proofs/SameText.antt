-- Two frames of one text are the same.
use Rattle.std.proofs.Common.{◌≡◌, ◌<◌, ◌/◌, ℕ, List, [], ◌∷◌, ◌++◌, codes, sym, ◌∙◌, arith}
use Rattle.cm_text.specs.Hex.{glyph}
use mathlib.Core.Logic.{inl, inr}
use Rattle.cm_can.specs.declared.frame.CanFrame.{CanFrame}
use Rattle.cm_can.specs.Frames.{data_of}
use Rattle.cm_can.specs.Lines.{AreBytes, IsFrameText, IsRemoteTail, IsSameFrame, byte_digits, id_digits}
use Rattle.cm_can.proofs.OneFrame.{bytes_one, id_one}

-- texts that begin alike have one identifier, and one rest
heads : (a b : ℕ) (xs ys : List ℕ) → a < 2048 → b < 2048 → id_digits a ++ 35 ∷ xs ≡ id_digits b ++ 35 ∷ ys → (a ≡ b) × (xs ≡ ys)
heads a b xs ys la lb e =
    let ids : id_digits a ≡ id_digits b = cc in
    let rest : xs ≡ ys = cc in
    (id_one a b la lb ids, rest)

no_r : (b : ℕ) → b < 256 → glyph (b / 16) ≡ 82 → ⊥
no_r b l e = grind arith

-- the digits of bytes don't begin with `R`
no_letter : (bs tail : List ℕ) → AreBytes bs → IsRemoteTail tail → byte_digits bs ≡ tail → ⊥
no_letter [] tail small (inl r) e = absurd (cc)
no_letter [] tail small (inr r) e = let three = r.2 in absurd (cc)
no_letter (b ∷ bs) tail small (inl r) e =
    let first : glyph (b / 16) ≡ 82 = cc in
    no_r b (small 0 b (omega arith)) first
no_letter (b ∷ bs) tail small (inr r) e =
    let text = r.2 in
    let first : glyph (b / 16) ≡ 82 = cc in
    no_r b (small 0 b (omega arith)) first

pub same_text : (text : List ℕ) (f g : CanFrame) → AreBytes (data_of f) → AreBytes (data_of g) → IsFrameText text f → IsFrameText text g → IsSameFrame f g
same_text text f g bf bg (inl x) (inl y) =
    let h = heads f.id.number g.id.number (byte_digits (data_of f)) (byte_digits (data_of g)) f.id.in_range g.id.in_range (sym x.1 ∙ y.1) in
    record { kind = x.0 ∙ sym y.0; id = h.0; carried = λ k. bytes_one (data_of f) (data_of g) bf bg h.1 }
same_text text f g bf bg (inl x) (inr y) =
    let tail = y.1 in
    let h = heads f.id.number g.id.number (byte_digits (data_of f)) tail.0 f.id.in_range g.id.in_range (sym x.1 ∙ tail.2) in
    absurd (no_letter (data_of f) tail.0 bf tail.1 h.1)
same_text text f g bf bg (inr x) (inl y) =
    let tail = x.1 in
    let h = heads f.id.number g.id.number tail.0 (byte_digits (data_of g)) f.id.in_range g.id.in_range (sym tail.2 ∙ y.1) in
    absurd (no_letter (data_of g) tail.0 bg tail.1 (sym h.1))
same_text text f g bf bg (inr x) (inr y) =
    let tail = x.1 in
    let other = y.1 in
    let h = heads f.id.number g.id.number tail.0 other.0 f.id.in_range g.id.in_range (sym tail.2 ∙ other.2) in
    let kinds : f.kind ≡ g.kind = x.0 ∙ sym y.0 in
    record { kind = kinds; id = h.0; carried = λ k. let no_data = sym x.0 ∙ k in absurd (cc) }

-- behind the same digits
pub same_rest : (xs ys : List ℕ) → codes "20000" ++ xs ≡ codes "20000" ++ ys → xs ≡ ys
same_rest xs ys e = cc
