-- Where in the text that is received stands what the bus says beside answers and states (own).
use Rattle.std.specs.Prelude.{◌≡◌, ℕ, List, Option, Some}
use Rattle.cm_can.specs.Remarks.{IsRemark}
use Rattle.cm_can.specs.declared.can_error.CanError.{CanError}
use Rattle.cm_can.specs.declared.format.Format.{Format}
use Rattle.cm_can.specs.declared.frame.CanFrame.{CanFrame}
use Rattle.cm_can.specs.declared.remark.Remark.{Remark}
use Rattle.cm_can.specs.declared.remark.Remark.TheVariants as remark
use Rattle.cm_receiving.specs.Doubling.{answering, said_in}
use Rattle.cm_receiving.specs.Places.{HasLineAt, IsErrorIn, StandsIn}

-- in a text that may be unknown the line at this place says the error
abbrev pub IsErrorAt : Format → Option (List ℕ) → ℕ → CanError → Type 0
IsErrorAt format text place e = (t : List ℕ) → text ≡ Some t → (line : List ℕ) × HasLineAt t place line × IsErrorIn format line e

-- what the bus says stands at this place: an emergency, boot-up or NMT message as a frame; an error as its line; that two devices have one
-- node-ID as an answer of this node
abbrev pub IsRemarkAt : Format → Option (List ℕ) → ℕ → Remark → Type 0
IsRemarkAt format text place (remark.Error e) = IsErrorAt format text place e
IsRemarkAt format text place (remark.Doubled node) = (f : CanFrame) × (answering (said_in f) ≡ Some node) × StandsIn format text place f
IsRemarkAt format text place r = (f : CanFrame) × IsRemark f r × StandsIn format text place f

-- such a remark with its place
pub record PlacedRemark : Type 0 where
  pub place : ℕ
  pub remark : Remark
