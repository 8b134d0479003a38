-- What was heard of a slave's state.
use Rattle.std.specs.Prelude.{Bool, true, false}
use Rattle.cm_nmt.specs.declared.state.NmtState.TheVariants.{Stopped, Operational, PreOperational}
use Rattle.cm_nmt.specs.declared.heard.Heard.{Heard}
use Rattle.cm_nmt.specs.declared.heard.Heard.TheVariants.{NotAsked, Silent, State}

-- the question was asked
abbrev pub is_heard : Heard → Bool
is_heard NotAsked = false
is_heard Silent = true
is_heard (State s) = true

-- the question was asked and no answer came
abbrev pub is_silent : Heard → Bool
is_silent Silent = true
is_silent _ = false

-- the slave said that it is operational
abbrev pub is_operational : Heard → Bool
is_operational (State Operational) = true
is_operational _ = false

-- the slave gave a state other than operational
abbrev pub is_other_state : Heard → Bool
is_other_state (State Stopped) = true
is_other_state (State PreOperational) = true
is_other_state _ = false
