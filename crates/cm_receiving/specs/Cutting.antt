-- How the bytes that are received are cut into lines (own).
use Rattle.std.specs.Prelude.{◌≡◌, ◌<◌, ◌+◌, ℕ, List, Option, Some, IsTrue, IsFalse, length, slice_get, drop, take}
use Rattle.cm_receiving.specs.Places.{IsLineStart, EndsWithLine}
use Rattle.cm_receiving.specs.declared.line_counter.LineCounter.{LineCounter}
use Rattle.cm_receiving.specs.declared.line_cutter.LineCutter.{LineCutter}

-- how a cutter is that has taken these bytes: the last of them ended a line; or it is in a line, which it has whole unless it is
-- too long, of more than 128 bytes
pub record IsCutting (taken : List ℕ) (c : LineCutter) : Type 0 where
  pub ended : IsTrue c.is_ended → IsLineStart taken
  pub going : IsFalse c.is_ended → IsFalse c.is_too_long → EndsWithLine taken c.line.items
  pub long : IsFalse c.is_ended → IsTrue c.is_too_long → (line : List ℕ) → EndsWithLine taken line → 128 < length line

-- how a cutter is that has taken the first bytes of this text, as many as it counts
abbrev pub IsCounting : List ℕ → LineCounter → Type 0
IsCounting text c = IsCutting (take c.taken text) c.lines

-- in a text that may be unknown these bytes come next, at this place
abbrev pub ComeNext : Option (List ℕ) → ℕ → List ℕ → Type 0
ComeNext text place bytes = (t : List ℕ) → text ≡ Some t → (k : ℕ) (b : ℕ) → slice_get bytes k ≡ Some b → slice_get t (place + k) ≡ Some b

-- of a text that may be unknown, this is left to be read behind the place
abbrev pub IsLeft : Option (List ℕ) → ℕ → Option (List ℕ) → Type 0
IsLeft text place left = (t : List ℕ) → text ≡ Some t → left ≡ Some (drop place t)
