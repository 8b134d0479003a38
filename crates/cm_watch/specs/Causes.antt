-- No cause for a boot is forgotten (own).
use Rattle.std.specs.Prelude.{◌≡◌, ◌==◌, ◌||◌, if◌then◌else◌, [], ◌∷◌, ℕ, Bool, true, false}
use Rattle.std.specs.Prelude.{Option, Some, None, is_some, option_map, unwrap_or}
use Rattle.cm_netlist.specs.Network.{Network}
use Rattle.cm_watch.specs.Course.{started_at}
use Rattle.cm_watched.specs.Pasts.{Past}
use Rattle.cm_watched.specs.Schedules.{cause_by, schedule_in}
use Rattle.cm_watched.specs.Slaves.{booted_since, is_busy_in, is_held_in}
use Rattle.cm_watched.specs.declared.happening.Happening.TheVariants as happening
use Rattle.cm_watched.specs.declared.happening.Moment.{Moment}
use Rattle.cm_watched.specs.declared.happening.Moment.TheVariants as moment
use Rattle.cm_watched.specs.declared.settings.Settings.{Settings}

-- whether i was given up: a worker's attempts at it have ended, and no cause for a boot has come since
abbrev pub given_up_by : Moment → ℕ → Option Bool
given_up_by (moment.Happened (happening.Ended j)) i = if j == i then Some true else None
given_up_by m i = option_map (λ c. false) (cause_by m i)

abbrev pub is_given_up_in : Past → ℕ → Bool
is_given_up_in [] i = false
is_given_up_in (x ∷ past) i = unwrap_or (given_up_by x.1 i) (is_given_up_in past i)

-- the law: once the network was started, a slave is booted, or a worker has it, or an operator holds it, or it was given up,
-- or it is to be booted at some time
abbrev pub IsNotForgotten : Type 0
IsNotForgotten =
    (net : Network) (s : Settings) (past : Past) (i : ℕ) → is_some (started_at past) ≡ true
    → (is_some (booted_since past i)
    || (is_busy_in past i || (is_held_in past i || (is_given_up_in past i || is_some (schedule_in net s past i).due)))) ≡ true
