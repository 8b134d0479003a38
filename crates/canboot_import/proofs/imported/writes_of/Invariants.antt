use Rattle.std.proofs.Common.{ℕ, List}
use Rattle.std.specs.List.{All}
use Rattle.cm_device.specs.FileValues.{IsSetting}
use Rattle.cm_device.specs.SettingsMade.{AllWrites}
use Rattle.canboot_import.proofs.imported.writes_of.Given as goal

-- the writes so far are what the file sets
abbrev pub invariant-loop-setting : goal.invariant-loop-setting
invariant-loop-setting l = (file : List ℕ) (node : ℕ) → AllWrites (IsSetting file node) l.settings → All (IsSetting file node) l.writes.items
