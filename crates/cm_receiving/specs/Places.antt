-- Where a frame stands in the text that is received (own; can-utils, SLCAN).
use Rattle.std.specs.Prelude.{◌≡◌, ◌<◌, ◌≤◌, ◌⊎◌, ℕ, List, [], ◌∷◌, ◌++◌, All, Option, Some, length}
use Rattle.cm_can.specs.declared.frame.CanFrame.{CanFrame}
use Rattle.cm_can.specs.Control.{IsErrorControl}
use Rattle.cm_can.specs.ErrorLines.{IsErrorLine}
use Rattle.cm_can.specs.Lines.{IsLogLine, IsAdapterText}
use Rattle.cm_can.specs.declared.can_error.CanError.{CanError}
use Rattle.cm_can.specs.declared.format.Format.{Format}
use Rattle.cm_can.specs.declared.format.Format.TheVariants.{CanUtils, Adapter}

-- a byte that ends a line: a line feed, or a carriage return
abbrev pub EndsLine : ℕ → Type 0
EndsLine b = (b ≡ 10) ⊎ (b ≡ 13)

-- a line begins behind these bytes: they are none, or the last of them ends a line
abbrev pub IsLineStart : List ℕ → Type 0
IsLineStart before = (before ≡ []) ⊎ ((front : List ℕ) × (b : ℕ) × EndsLine b × (before ≡ front ++ b ∷ []))

-- the last of these bytes are a line, as far as they go: it begins where a line begins, and no byte of it ends one
pub record EndsWithLine (taken line : List ℕ) : Type 0 where
  pub before : List ℕ
  pub starts : IsLineStart before
  pub unbroken : All (λ b. EndsLine b → ⊥) line
  pub parts : taken ≡ before ++ line

-- the line stands in the text just before the byte at this place, counted from 0, which ends it
pub record HasLineAt (text : List ℕ) (place : ℕ) (line : List ℕ) : Type 0 where
  pub taken : List ℕ
  pub ending : ℕ
  pub rest : List ℕ
  pub parts : text ≡ taken ++ ending ∷ rest
  pub place_is : length taken ≡ place
  pub ends : EndsLine ending
  pub last : EndsWithLine taken line

-- the line is that of the frame
abbrev pub IsFrameLine : Format → List ℕ → CanFrame → Type 0
IsFrameLine CanUtils line f = IsLogLine line f
IsFrameLine Adapter line f = IsAdapterText line f

-- the line is that of an error frame; a serial adapter has none
abbrev pub IsErrorIn : Format → List ℕ → CanError → Type 0
IsErrorIn CanUtils line e = IsErrorLine line e
IsErrorIn Adapter line e = ⊥

-- the frame stands as a line in the text, which the byte at this place ends
pub record StandsAt (format : Format) (text : List ℕ) (place : ℕ) (f : CanFrame) : Type 0 where
  pub line : List ℕ
  pub at : HasLineAt text place line
  pub frame : IsFrameLine format line f

-- the same of a text that may be unknown
abbrev pub StandsIn : Format → Option (List ℕ) → ℕ → CanFrame → Type 0
StandsIn format text place f = (t : List ℕ) → text ≡ Some t → StandsAt format t place f

-- an error control message of the node with this byte stands in a text that may be unknown, as a line that the byte at this place ends
abbrev pub IsControlAt : Format → Option (List ℕ) → ℕ → ℕ → ℕ → Type 0
IsControlAt format text place node byte = (f : CanFrame) × IsErrorControl node byte f × StandsIn format text place f

-- such a message with its place
pub record PlacedControl : Type 0 where
  pub place : ℕ
  pub node : ℕ
  pub byte : ℕ

-- a boot-up message of the node (CiA 301; bit 7 masked, own) stands in the text, as a line of up to 128 bytes, which the byte at this
-- place ends; longer lines are passed over
pub record HasBootUpAt (format : Format) (text : List ℕ) (node place : ℕ) : Type 0 where
  pub line : List ℕ
  pub frame : CanFrame
  pub byte : ℕ
  pub at : HasLineAt text place line
  pub short : length line ≤ 128
  pub is : IsFrameLine format line frame
  pub control : IsErrorControl node byte frame
  pub boot_up : (byte ≡ 0) ⊎ (byte ≡ 128)

-- in a text that may be unknown no boot-up message of the node stands behind the place `from` and at `upto` at the latest
abbrev pub NoBootUp : Format → Option (List ℕ) → ℕ → ℕ → ℕ → Type 0
NoBootUp format text node from upto =
    (t : List ℕ) → text ≡ Some t → (place : ℕ) → from < place → place ≤ upto → HasBootUpAt format t node place → ⊥

-- a frame with its place, and the last place up to there from which on another device may be its node, 0 where none is
pub record Placed : Type 0 where
  pub place : ℕ
  pub frame : CanFrame
  pub since : ℕ

-- the line stands at this place in a text that may be unknown
abbrev pub LineStandsIn : Option (List ℕ) → ℕ → List ℕ → Type 0
LineStandsIn text place line = (t : List ℕ) → text ≡ Some t → HasLineAt t place line

-- a line with its place
pub record PlacedLine : Type 0 where
  pub place : ℕ
  pub line : List ℕ
