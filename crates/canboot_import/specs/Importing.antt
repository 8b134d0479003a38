-- What `canboot import` does (own).
use Rattle.std.specs.Prelude.{◌≡◌, ◌⊎◌, List, Option, ℕ}
use Rattle.std.specs.Io.KnownBytes.{Appends}
use Rattle.cm_text.specs.Input.{ReadsAll}
use Rattle.canboot_import.specs.Imports.{IsImported}
use Rattle.canboot_import.specs.declared.imported.ImportWords.{ImportWords}

-- the input was read to its end, at most 4,194,304 bytes, and this text is the slave that they and the words give, with lines that are told
pub record IsSlaveOf (words : ImportWords) (input input' : Option (List ℕ)) (text : List ℕ) : Type 0 where
  pub bytes : List ℕ
  pub read : ReadsAll 4194304 input input' bytes
  pub told : List ℕ
  pub slave : IsImported bytes words text told

-- just the slave that the input and the words give was written
pub record ImportsSlave (words : ImportWords) (input input' output output' : Option (List ℕ)) : Type 0 where
  pub text : List ℕ
  pub slave : IsSlaveOf words input input' text
  pub written : Appends output output' text

-- nothing was written, or the slave was to be written
abbrev pub FailsToImport : ImportWords → Option (List ℕ) → Option (List ℕ) → Option (List ℕ) → Option (List ℕ) → Type 0
FailsToImport words input input' output output' = (output' ≡ output) ⊎ ((text : List ℕ) × IsSlaveOf words input input' text)
