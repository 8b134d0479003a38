-- What the operator's seat did in a live run that ended as it was asked to (own).
use Rattle.std.specs.Prelude.{◌≡◌, ◌∷◌, [], ℕ, List, Option}
use Rattle.cm_can.specs.declared.format.Format.{Format}
use Rattle.cm_bus.specs.declared.options.LiveOptions.{LiveOptions}
use Rattle.cm_history.specs.declared.call.Call.{Call}
use Rattle.cm_history.specs.declared.call.Call.TheVariants as call
use Rattle.cm_netlist.specs.Network.{Network}
use Rattle.cm_watched.specs.declared.settings.Settings.{Settings}
use Rattle.canboot_turns.specs.Causes.{AreCauses, Cause, EndsAsAsked, calls_behind}

-- by what the watch of a run goes that has these options
abbrev pub settings_of : LiveOptions → Settings
settings_of options = record { settle_ms = options.settle_ms; heartbeat_ms = options.heartbeat_ms }

-- the calls are the start of the network, and behind it just those of what happened, one thing after the other: each has its cause, so that
-- the watch was told of no error control message but such as stand among the bytes received, each once, in their order; each line that was
-- obeyed makes the calls that it asks for, each time that the steps of the watch were made those that it gives by what it
-- was told until then; and last, a line that asks for the end was obeyed, or the watch gave the end
pub record IsDriven (format : Format) (received typed : Option (List ℕ)) (net : Network) (options : LiveOptions) (calls : List Call) : Type 0 where
  pub causes : List Cause
  pub upto : ℕ
  pub each : AreCauses format received typed causes 0 upto
  pub made : calls ≡ call.StartNetwork ∷ calls_behind net (settings_of options) causes []
  pub ended : EndsAsAsked net (settings_of options) causes []
