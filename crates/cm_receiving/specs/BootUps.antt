-- Which boot-up messages stand among the bytes that are received (own, over CiA 301).
use Rattle.std.specs.Prelude.{◌≡◌, ◌<◌, ◌⊎◌, ℕ, List, Option, Some}
use Rattle.cm_can.specs.Control.{IsErrorControl}
use Rattle.cm_can.specs.declared.frame.CanFrame.{CanFrame}
use Rattle.cm_receiving.specs.Places.{HasBootUpAt}
use Rattle.cm_can.specs.declared.format.Format.{Format}

-- the frame is a boot-up message of the node (CiA 301; bit 7 masked, own)
abbrev pub IsBootUp : ℕ → CanFrame → Type 0
IsBootUp node f = (byte : ℕ) × IsErrorControl node byte f × ((byte ≡ 0) ⊎ (byte ≡ 128))

-- in a text that may be unknown the byte at this place ends no boot-up message of the node
abbrev pub EndsNoBootUp : Format → Option (List ℕ) → ℕ → ℕ → Type 0
EndsNoBootUp format text node place = (t : List ℕ) → text ≡ Some t → HasBootUpAt format t node place → ⊥

-- nor does any of so many bytes that is behind the place `last`
abbrev pub IsLastBootUp : Format → Option (List ℕ) → ℕ → ℕ → ℕ → Type 0
IsLastBootUp format text node last taken = (place : ℕ) → last < place → place < taken → EndsNoBootUp format text node place
