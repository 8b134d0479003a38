-- The questions of a boot, by the objects that they read (CiA 301; the order is that of the fields).
use Rattle.std.specs.Prelude.{Bool, true, false, ◌==◌, if◌then◌else◌, Option, Some, option_map, slice_get}
use Rattle.cm_netlist.specs.declared.entry.SlaveEntry.{SlaveEntry}
use Rattle.cm_nmt.specs.declared.answers.Answers.{Answers}
use Rattle.cm_nmt.specs.declared.field.Field.{Field}
use Rattle.cm_nmt.specs.declared.field.Field.TheVariants.{Device, Vendor, Product, Revision, Serial, State, Date, Time, Writes, Beat}
use Rattle.cm_boot.specs.declared.question.Question.{Question}
use Rattle.cm_boot.specs.declared.question.Question.TheVariants.{Read, Write, StateByBeat, StateByGuard, Beat as AwaitBeat}
use Rattle.cm_boot.specs.declared.question.Answer.{Answer}
use Rattle.cm_boot.specs.declared.question.Answer.TheVariants as answer

-- the device type (CiA 301, 1000h)
abbrev pub device_type : Question
device_type = Read 0x1000 0

-- the vendor-ID (CiA 301, 1018h sub 1)
abbrev pub vendor_id : Question
vendor_id = Read 0x1018 1

-- the product code (CiA 301, 1018h sub 2)
abbrev pub product_code : Question
product_code = Read 0x1018 2

-- the revision number (CiA 301, 1018h sub 3)
abbrev pub revision_number : Question
revision_number = Read 0x1018 3

-- the serial number (CiA 301, 1018h sub 4)
abbrev pub serial_number : Question
serial_number = Read 0x1018 4

-- the configuration date (CiA 301, 1020h sub 1)
abbrev pub configuration_date : Question
configuration_date = Read 0x1020 1

-- the configuration time (CiA 301, 1020h sub 2)
abbrev pub configuration_time : Question
configuration_time = Read 0x1020 2

-- the state check: by heartbeat where a heartbeat time is listed, else by a guard request (own)
abbrev pub state_check : SlaveEntry → Question
state_check e = if e.heartbeat_ms == 0 then StateByGuard else StateByBeat

-- the question that fills a field; for the writes, the one after those that were acknowledged, and
-- none where there is none left
unfoldable pub question : SlaveEntry → Answers → Field → Option Question
question e a Device = Some device_type
question e a Vendor = Some vendor_id
question e a Product = Some product_code
question e a Revision = Some revision_number
question e a Serial = Some serial_number
question e a State = Some (state_check e)
question e a Date = Some configuration_date
question e a Time = Some configuration_time
question e a Writes = option_map (λ w. Write w) (slice_get e.writes.items a.acked)
question e a Beat = Some AwaitBeat

-- the answer fits the question: silence fits every question, an abort a read or a write, a value a
-- read, an acknowledgement a write, a state the others
abbrev pub fits : Question → Answer → Bool
fits q answer.Silent = true
fits (Read index sub) (answer.Value v) = true
fits (Read index sub) (answer.Abort code) = true
fits (Write w) answer.Acked = true
fits (Write w) (answer.Abort code) = true
fits StateByBeat (answer.State s) = true
fits StateByGuard (answer.State s) = true
fits AwaitBeat (answer.State s) = true
fits _ _ = false

-- an answer that doesn't fit its question counts as silence (own)
abbrev pub counted : Question → Answer → Answer
counted q x = if fits q x then x else answer.Silent
