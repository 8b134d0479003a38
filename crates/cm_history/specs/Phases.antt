-- The phases of the manager (own).
use Rattle.std.specs.Prelude.{Bool, true, false}
use Rattle.cm_history.specs.declared.phase.Phase.{Phase}
use Rattle.cm_history.specs.declared.phase.Phase.TheVariants as phase

-- the network was never started
abbrev pub is_idle : Phase → Bool
is_idle phase.Idle = true
is_idle _ = false

-- the mandatory slaves are being booted
abbrev pub is_booting : Phase → Bool
is_booting phase.Booting = true
is_booting _ = false

-- the mandatory slaves were booted
abbrev pub is_ready : Phase → Bool
is_ready phase.Ready = true
is_ready _ = false

-- the boot of the network was given up
abbrev pub is_halted : Phase → Bool
is_halted phase.Halted = true
is_halted _ = false
