-- What the manager sends for error control at a time, told from the past (CiA 301).
use Rattle.std.specs.Prelude.{◌++◌, ℕ, List, map, filter}
use Rattle.cm_netlist.specs.Network.{Network}
use Rattle.cm_nmt.specs.Listing.{node_ids}
use Rattle.cm_watched.specs.Beats.{beat_byte, beat_last, is_beat_due, own_in}
use Rattle.cm_watched.specs.Guarding.{is_guard_due}
use Rattle.cm_watched.specs.Pasts.{Past}
use Rattle.cm_watch.specs.Steps.{step_if}
use Rattle.cm_watched.specs.declared.happening.Step.{Step}
use Rattle.cm_watched.specs.declared.happening.Step.TheVariants as step
use Rattle.cm_watched.specs.declared.settings.Settings.{Settings}

-- the heartbeat of the manager itself, where one is due, and the requests for the states of slaves, in rising order
abbrev pub error_control_at : Network → Settings → Past → ℕ → List Step
error_control_at net s past now =
    step_if (is_beat_due s.heartbeat_ms now (beat_last past)) (step.Beat (beat_byte (beat_last past) (own_in net past)))
    ++ map step.Guard (filter (is_guard_due net past now) node_ids)
