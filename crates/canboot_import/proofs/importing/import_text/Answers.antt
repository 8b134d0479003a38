use Rattle.std.proofs.Common.{◌≡◌, ◌⊎◌, ℕ, Result, Ok, Err, Option, List, inl, inr, subst, arith}
use Rattle.std.specs.Prelude.{if◌then◌else◌, is_ok}
use Rattle.canboot_faults.proofs.OutputStatus.{done_written}
use Rattle.cm_text.specs.Input.{ReadsAll}
use Rattle.canboot_import.specs.Imports.{IsImported}
use Rattle.canboot_import.specs.declared.imported.ImportWords.{ImportWords}
use Rattle.canboot_import.specs.Importing.{IsSlaveOf}
use Rattle.canboot_import.proofs.importing.import_text.Goals as goal

-- what was to be written ends with 0 or 3
zero_or_three : {A E : Type 0} (r : Result A E) (status : ℕ) → status ≡ (if is_ok r then 0 else 3) → (status ≡ 0) ⊎ ((status ≡ 1) ⊎ (status ≡ 3))
zero_or_three (Ok x) status is = inl is
zero_or_three (Err e) status is = inr (inr is)

-- and not with 1
never_refused : {A E : Type 0} {P : Type 0} (r : Result A E) (status : ℕ) → status ≡ (if is_ok r then 0 else 3) → status ≡ 1 → P
never_refused (Ok x) status is one = absurd (omega (arith, is, one))
never_refused (Err e) status is one = absurd (omega (arith, is, one))

-- the bytes that were read, and the slave of a file that they are
slave_of : (words : ImportWords) (input input' : Option (List ℕ)) (bytes file text told : List ℕ) → ReadsAll 4194304 input input' bytes → file ≡ bytes → IsImported file words text told
    → IsSlaveOf words input input' text
slave_of words input input' bytes file text told read same slave =
    record { bytes = bytes; read = read; told = told; slave = subst (λ (it : List ℕ). IsImported it words text told) same slave }

pub returns-in-Ok-import-clause-done : goal.returns-in-Ok-import-clause-done
returns-in-Ok-import-clause-done g c = λ e.
    record {
      text = c.in-Ok-import.slave.slave.items;
      slave = slave_of c.args.words _ _ c.in-Ok.bytes.items c.as_slice.result.now c.in-Ok-import.slave.slave.items c.in-Ok-import.slave.told.items c.in-Ok.ensures c.as_slice.ensures.value c.in-Ok-import.ensures;
      written = done_written c.put_slave-written.result _ c.output_status.result c.put_slave-written.ensures c.output_status.ensures e;
    }

pub returns-in-Ok-import-clause-refused : goal.returns-in-Ok-import-clause-refused
returns-in-Ok-import-clause-refused g c = never_refused c.put_slave-written.result c.output_status.result c.output_status.ensures

pub returns-in-Ok-import-clause-failed : goal.returns-in-Ok-import-clause-failed
returns-in-Ok-import-clause-failed g c = λ e.
    inr (
      c.in-Ok-import.slave.slave.items,
      slave_of c.args.words _ _ c.in-Ok.bytes.items c.as_slice.result.now c.in-Ok-import.slave.slave.items c.in-Ok-import.slave.told.items c.in-Ok.ensures c.as_slice.ensures.value c.in-Ok-import.ensures,
    )

pub returns-in-Ok-import-clause-statuses : goal.returns-in-Ok-import-clause-statuses
returns-in-Ok-import-clause-statuses g c = zero_or_three c.put_slave-written.result c.output_status.result c.output_status.ensures
