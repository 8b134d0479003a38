-- When a read shows nothing (own).
use Rattle.std.specs.Prelude.{◌≤◌, ℕ}
use Rattle.cm_register.specs.declared.seat_fault.ReadFault.{ReadFault}
use Rattle.cm_register.specs.declared.seat_fault.ReadFault.TheVariants as read

-- the target of a read is a node-ID (CiA 301: 1 to 127)
abbrev pub IsTarget : ℕ → Type 0
IsTarget target = (1 ≤ target) × (target ≤ 127)

-- a read shows nothing where its target is no node-ID, or else where no version is given
abbrev pub IsReadCause : ℕ → ReadFault → Type 0
IsReadCause target read.BadTarget = IsTarget target → ⊥
IsReadCause target read.NoVersion = IsTarget target
