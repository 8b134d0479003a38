-- Working definitions: no public contract cites them.
-- Where a first part ends.
use Rattle.std.specs.Prelude.{◌≡◌, ◌≢◌, ◌<◌, get_or, ℕ, ◌==◌, if◌then◌else◌, true, false, List, [], ◌∷◌, length, Option, Some, None}
use Rattle.std.specs.List.{All}
use Rattle.cm_text.specs.Plain.{is_plain}
use Rattle.cm_text.specs.Words.{Words, split}

-- the parts that follow a first part, by the bytes behind it; nothing where the part goes on (own)
abbrev pub behind : ℕ → List ℕ → Option Words
behind separator [] = Some []
behind separator (b ∷ bs) = if b == separator then Some (split separator bs) else None

-- no byte is the separator (own)
abbrev pub Lacks : ℕ → List ℕ → Type 0
Lacks separator w = All (λ b. (b == separator) ≡ false) w

-- the separator is one of the bytes (own)
abbrev pub Holds : ℕ → List ℕ → Type 0
Holds separator w = (at : ℕ) × (at < length w) × (get_or w at 0 ≡ separator)

-- the first part has another number of bytes (own)
abbrev pub IsOfOtherWidth : ℕ → Words → Type 0
IsOfOtherWidth width ws = (w : List ℕ) (more : Words) → ws ≡ w ∷ more → length w ≢ width

-- a first part of so many bytes is this word, and the word is the first part if it is plain (own)
pub record IsFirst (width : ℕ) (word : List ℕ) (rest ws : Words) : Type 0 where
  pub only : (w : List ℕ) (more : Words) → ws ≡ w ∷ more → length w ≡ width → (w ≡ word) × (more ≡ rest)
  pub plain : is_plain word ≡ true → ws ≡ word ∷ rest
