use Rattle.std.proofs.Common.{ℕ, List}
use Rattle.cm_device.specs.FileValues.{IsSetting}
use Rattle.cm_device.specs.FileLines.{AreOf}
use Rattle.cm_device.specs.SettingsMade.{AllWrites}
use Rattle.cm_device.proofs.settings.collect.Given as goal

-- what the items so far set
abbrev pub invariant-loop-item : goal.invariant-loop-item
invariant-loop-item l = (file : List ℕ) → AreOf file l.items → AllWrites (IsSetting file l.node) l.all
