-- The heartbeat of the manager itself (CiA 301, heartbeat producer: its time is object 1017h).
use Rattle.std.specs.Prelude.{◌≡◌, ◌&&◌, ◌*◌, ◌/◌, ◌<◌, ◌≤◌, ◌↔◌, [], ◌∷◌, ℕ, Bool, true, nat_lt, Option, Some, None}
use Rattle.std.specs.Option.{option_or}
use Rattle.cm_history.specs.History.{own_of}
use Rattle.cm_netlist.specs.Network.{Network, listing}
use Rattle.cm_nmt.specs.Codes.{state_code}
use Rattle.cm_nmt.specs.declared.state.NmtState.{NmtState}
use Rattle.cm_watched.specs.Pasts.{Past, entries_in}
use Rattle.cm_watched.specs.declared.happening.Moment.{Moment}
use Rattle.cm_watched.specs.declared.happening.Moment.TheVariants as moment
use Rattle.cm_watched.specs.declared.happening.Step.TheVariants as step

-- when one was given
abbrev pub beat_by : ℕ → Moment → Option ℕ
beat_by t (moment.Gave (step.Beat b)) = Some t
beat_by t _ = None

-- when the last one was given
abbrev pub beat_last : Past → Option ℕ
beat_last [] = None
beat_last (x ∷ past) = option_or (beat_by x.0 x.1) (beat_last past)

-- one is due: none was given yet, or a multiple of the time h, in ms since the run began, has come behind the last one; never where
-- the time is 0 (CiA 301, 1017h)
abbrev pub is_beat_due : ℕ → ℕ → Option ℕ → Bool
is_beat_due h now None = nat_lt 0 h
is_beat_due h now (Some t) = nat_lt 0 h && nat_lt (t / h) (now / h)

-- the manager's own state, as the history has it
abbrev pub own_in : Network → Past → NmtState
own_in net past = own_of (listing net) (entries_in past)

-- its byte: 0, boot-up, in the first; else the manager's own state (CiA 301, boot-up and heartbeat)
abbrev pub beat_byte : Option ℕ → NmtState → ℕ
beat_byte None own = 0
beat_byte (Some t) own = state_code own

-- the law: behind one that was given at t, one is due exactly where a multiple of the time lies between: behind t, and not
-- behind now. So none is missed, and where a turn comes late there is one for all that it has passed
abbrev pub IsAtMultiples : Type 0
IsAtMultiples =
    (h t now : ℕ) → 0 < h → (is_beat_due h now (Some t) ≡ true) ↔ ((k : ℕ) × (t < k * h) × (k * h ≤ now))
