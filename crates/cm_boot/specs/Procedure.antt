-- The boot slave procedure as a machine: question by question, in their order, and what ends the boot
-- (CiA 302-2, boot slave; the order, the conditions and the places of the statuses are own). The
-- tables of Lawful and Verdict speak of finished records and never of this machine; a law says that
-- the records with which it ends, and its status there, are those of the tables.
use Rattle.std.specs.Prelude.{◌≡◌, Bool, ◌==◌, ◌&&◌, not, if◌then◌else◌, List, [], ◌∷◌, Option, Some, None}
use Rattle.cm_nmt.specs.Bits.{has_bit}
use Rattle.cm_nmt.specs.declared.terms.Terms.{Terms}
use Rattle.cm_nmt.specs.Got.{has_value, is_answered, is_value}
use Rattle.cm_nmt.specs.Heard.{is_operational, is_silent}
use Rattle.cm_nmt.specs.Answers.{none}
use Rattle.cm_nmt.specs.Fields.{fields}
use Rattle.cm_nmt.specs.Conditions.{date_agrees, is_complete, is_dated}
use Rattle.cm_boot.specs.Progress.{with_answer}
use Rattle.cm_nmt.specs.Verdict.{is_wrong}
use Rattle.cm_nmt.specs.declared.answers.Answers.{Answers}
use Rattle.cm_nmt.specs.declared.field.Field.{Field}
use Rattle.cm_nmt.specs.declared.field.Field.TheVariants.{Device, Vendor, Product, Revision, Serial, State, Date, Time, Writes, Beat}
use Rattle.cm_boot.specs.declared.question.Answer.{Answer}
use Rattle.cm_nmt.specs.declared.status.Status.{Status}
use Rattle.cm_nmt.specs.declared.status.Status.TheVariants.{Ok, A, B, C, D, E, F, G, J, K, L, M, N, O}

-- a slave that is to be booted, 1F81h bit 2, and wasn't found operational
abbrev pub is_configurable : Terms → Answers → Bool
is_configurable t a = has_bit t.assignment.0 2 && not (is_operational a.heard)

-- where the field's question is asked, if no earlier one ended the boot:
--   Device            the slave is to be booted, 1F81h bit 2
--   Vendor to Serial  the same, and a value is expected
--   State             the same, and the slave is kept alive, 1F81h bit 4
--   Date              the slave wasn't found operational, and a date and a time are expected
--   Time              the same, and the date was the expected one
--   Writes            the slave wasn't found operational, and date and time didn't both agree
--   Beat              a heartbeat time is listed
unfoldable pub is_wanted : Terms → Answers → Field → Bool
is_wanted t a Device = has_bit t.assignment.0 2
is_wanted t a Vendor = has_bit t.assignment.0 2 && not (t.vendor == 0)
is_wanted t a Product = has_bit t.assignment.0 2 && not (t.product == 0)
is_wanted t a Revision = has_bit t.assignment.0 2 && not (t.revision == 0)
is_wanted t a Serial = has_bit t.assignment.0 2 && not (t.serial == 0)
is_wanted t a State = has_bit t.assignment.0 2 && has_bit t.assignment.0 4
is_wanted t a Date = is_configurable t a && is_dated t
is_wanted t a Time = is_configurable t a && is_dated t && is_value a.date t.date
is_wanted t a Writes = is_configurable t a && not (date_agrees t a)
is_wanted t a Beat = not (t.heartbeat_ms == 0)

-- the status with which the field's answer ends the boot:
--   Device            B, no value came; C, it isn't the expected one
--   Vendor to Serial  D, M, N, O: it isn't the expected value
--   State             E, no heartbeat came; F, no guard response came; G, software is to be verified,
--                     1F81h bit 5, and the slave wasn't found operational
--   Date, Time        none
--   Writes            J, a write failed
--   Beat              K, no beat came
unfoldable pub ends_with : Terms → Answers → Field → Option Status
ends_with t a Device =
    if has_bit t.assignment.0 2 && not (has_value a.device) then Some B
    else if has_bit t.assignment.0 2 && not (t.device_type == 0) && not (is_value a.device t.device_type) then Some C
    else None
ends_with t a Vendor = if is_wrong a 0 t.vendor then Some D else None
ends_with t a Product = if is_wrong a 1 t.product then Some M else None
ends_with t a Revision = if is_wrong a 2 t.revision then Some N else None
ends_with t a Serial = if is_wrong a 3 t.serial then Some O else None
ends_with t a State =
    if is_silent a.heard then (if t.heartbeat_ms == 0 then Some F else Some E)
    else if is_configurable t a && has_bit t.assignment.0 5 then Some G
    else None
ends_with t a Date = None
ends_with t a Time = None
ends_with t a Writes = if is_answered a.refused then Some J else None
ends_with t a Beat = if is_silent a.beat then Some K else None

-- what the machine does: it asks the question of a field, or ends the boot with a status
pub data Move : Type 0 where
  Asks : Field → Move
  Ends : Status → Move

-- through these fields, in their order: a question that is wanted and has no answer yet is asked; an
-- answer that ends the boot ends it; at the end the status is L where the slave was found
-- operational, else Ok
abbrev pub move_in : Terms → Answers → List Field → Move
move_in t a [] = if is_operational a.heard then Ends L else Ends Ok
move_in t a (f ∷ rest) =
    if is_wanted t a f && not (is_complete t a f) then Asks f
    else ended_or (ends_with t a f) (move_in t a rest)
  where
    ended_or : Option Status → Move → Move
    ended_or (Some s) later = Ends s
    ended_or None later = later

-- the machine's move at these answers; a slave that isn't listed is asked nothing, and has status A
abbrev pub move : Option Terms → Answers → Move
move None a = Ends A
move (Some t) a = move_in t a fields

-- the records that the machine can reach, with every answer that a device may give: no question was
-- asked, or the machine asked one more and got an answer that fits
pub data Reached (t : Option Terms) : Answers → Type 0 where
  start : Reached t none
  more : {a : Answers} → Reached t a → (f : Field) → (x : Answer) → (b : Answers) → move t a ≡ Asks f
      → with_answer a f x ≡ Some b → Reached t b

-- the machine can reach these answers, and ends there with this status
pub record IsEnd (t : Option Terms) (a : Answers) (s : Status) : Type 0 where
  pub reached : Reached t a
  pub ended : move t a ≡ Ends s
