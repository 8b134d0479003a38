-- What a device says that it is, asked over a bus (CiA 301, 1000h and 1018h).
use Rattle.std.specs.Prelude.{◌≡◌, ℕ}
use Rattle.cm_bus.specs.declared.identifying.Identity.{Identity}
use Rattle.cm_boot.specs.declared.question.Answer.{Answer}
use Rattle.cm_boot.specs.declared.question.Answer.TheVariants as answer
use Rattle.cm_boot.specs.declared.question.Question.{Question}
use Rattle.cm_boot.specs.declared.question.Question.TheVariants as ask

-- the value of an answer, 0 where it has none
abbrev pub value_in : Answer → ℕ
value_in (answer.Value v) = v
value_in _ = 0

-- the object was read, and this is its value, or 0
pub record Reads {B : Type 0} (step : B → Question → Answer → B → Type 0) (before : B) (index sub value : ℕ) (after : B) : Type 0 where
  pub x : Answer
  pub stepped : step before (ask.Read index sub) x after
  pub is : value ≡ value_in x

-- the device type was read and answered, and then each value of 1018h was read, in order
pub record Identifies {B : Type 0} (step : B → Question → Answer → B → Type 0) (before : B) (i : Identity) (after : B) : Type 0 where
  pub one : B
  pub two : B
  pub three : B
  pub four : B
  pub device_type : step before (ask.Read 4096 0) (answer.Value i.device_type) one
  pub vendor : Reads step one 4120 1 i.vendor two
  pub product : Reads step two 4120 2 i.product three
  pub revision : Reads step three 4120 3 i.revision four
  pub serial : Reads step four 4120 4 i.serial after

-- the device type was read, and no value was the answer
pub record IsNobody {B : Type 0} (step : B → Question → Answer → B → Type 0) (before after : B) : Type 0 where
  pub x : Answer
  pub stepped : step before (ask.Read 4096 0) x after
  pub none : (v : ℕ) → (x ≡ answer.Value v) → ⊥
