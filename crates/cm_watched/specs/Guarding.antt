-- Node guarding of slaves that have no heartbeat time (CiA 301, node guarding; CiA 302-2, slave assignment).
use Rattle.std.specs.Prelude.{◌==◌, ◌&&◌, ◌||◌, if◌then◌else◌, ◌*◌, ◌-◌, ◌%◌, ◌∷◌, [], ℕ, Bool, true, false, not}
use Rattle.std.specs.Prelude.{nat_le, nat_lt, Option, Some, None, is_some, unwrap_or}
use Rattle.std.specs.Option.{option_map_or, option_or}
use Rattle.cm_nmt.specs.Guarding.{guard_time, retry_factor}
use Rattle.cm_netlist.specs.Network.{Network, entry, is_kept}
use Rattle.cm_netlist.specs.declared.entry.SlaveEntry.{SlaveEntry}
use Rattle.cm_watched.specs.Pasts.{Past}
use Rattle.cm_watched.specs.Schedules.{cause_by}
use Rattle.cm_watched.specs.Slaves.{booted_since}
use Rattle.cm_watched.specs.declared.happening.Happening.TheVariants as happening
use Rattle.cm_watched.specs.declared.happening.Moment.{Moment}
use Rattle.cm_watched.specs.declared.happening.Moment.TheVariants as moment
use Rattle.cm_watched.specs.declared.happening.Step.TheVariants as step
use Rattle.cm_watched.specs.declared.schedule.Cause.{Cause}
use Rattle.cm_watched.specs.declared.schedule.Cause.TheVariants as cause

-- ---- how often, and for how long

-- how often a slave is asked for its state, in ms; 0 where it isn't: it has a heartbeat time, which precedes (CiA 301), or its
-- retry factor or its guard time is 0
abbrev pub guard_of_entry : SlaveEntry → ℕ
guard_of_entry e = if e.heartbeat_ms == 0 && nat_lt 0 (retry_factor e.assignment.0) then guard_time e.assignment.0 else 0

abbrev pub guard_of : Network → ℕ → ℕ
guard_of net i = option_map_or guard_of_entry (entry net i) 0

-- in which time an error control message of a slave has to come, in ms; 0 where it isn't watched: its heartbeat time (CiA 302-2,
-- 1016h of the manager), or where that is 0 its node life time, the guard time times the retry factor (CiA 301)
abbrev pub most_silence_of_entry : SlaveEntry → ℕ
most_silence_of_entry e =
    if e.heartbeat_ms == 0 then guard_time e.assignment.0 * retry_factor e.assignment.0 else e.heartbeat_ms

abbrev pub most_silence_of : Network → ℕ → ℕ
most_silence_of net i = option_map_or most_silence_of_entry (entry net i) 0

-- ---- requests

-- when i was asked for its state
abbrev pub guard_by : ℕ → Moment → ℕ → Option ℕ
guard_by t (moment.Gave (step.Guard j)) i = if j == i then Some t else None
guard_by t _ i = None

abbrev pub guard_last : Past → ℕ → Option ℕ
guard_last [] i = None
guard_last (x ∷ past) i = option_or (guard_by x.0 x.1 i) (guard_last past i)

-- what is booted since some time, and was asked last at another, is asked each g ms, at first at once
abbrev pub is_asked_again : ℕ → ℕ → Option ℕ → Option ℕ → Bool
is_asked_again g now last None = false
is_asked_again g now None (Some since) = nat_lt 0 g
is_asked_again g now (Some t) (Some since) = nat_lt 0 g && (nat_lt t since || nat_le g (now - t))

-- i is to be asked for its state: it is booted and guarded, and wasn't asked since it is booted, or a guard time ago
abbrev pub is_guard_due : Network → Past → ℕ → ℕ → Bool
is_guard_due net past now i = is_asked_again (guard_of net i) now (guard_last past i) (booted_since past i)

-- ---- answers

-- the toggle bit of the next answer, where a cause for a boot sets it: 0 where it came with a reset of i (CiA 301: the first
-- answer behind a reset communication has it 0)
abbrev pub toggle_by_cause : Network → ℕ → Option Cause → Option Bool
toggle_by_cause net i (Some cause.Started) = if is_kept net i then None else Some false
toggle_by_cause net i (Some cause.Reset) = Some false
toggle_by_cause net i (Some cause.Lost) = Some false
toggle_by_cause net i _ = None

-- the toggle bit behind a message with this byte: 0 behind a boot-up message, else turned
abbrev pub turned : ℕ → Bool
turned b = not (b % 128 == 0) && nat_lt b 128

-- the toggle bit of i's next answer, where the moment sets it
abbrev pub toggle_by : Network → Moment → ℕ → Option Bool
toggle_by net (moment.Happened (happening.Heard j b)) i = if j == i then Some (turned b) else None
toggle_by net m i = toggle_by_cause net i (cause_by m i)

-- the toggle bit of i's next answer; at first it is 0 (CiA 301, node guarding)
abbrev pub toggle_in : Network → Past → ℕ → Bool
toggle_in net [] i = false
toggle_in net (x ∷ past) i = unwrap_or (toggle_by net x.1 i) (toggle_in net past i)

-- the byte has this toggle bit: bit 7 (CiA 301, node guarding)
abbrev pub has_toggle : Bool → ℕ → Bool
has_toggle true b = nat_le 128 b
has_toggle false b = nat_lt b 128

-- a message with this byte counts, of a slave that is asked each g ms and is booted since some time, or isn't: a boot-up message;
-- each of one that isn't guarded; of one that is, an answer with the toggle bit that is next
abbrev pub counts_for : ℕ → Option ℕ → Bool → ℕ → Bool
counts_for g since toggle b = (b % 128 == 0) || (not (nat_lt 0 g && is_some since) || has_toggle toggle b)

abbrev pub counts : Network → Past → ℕ → ℕ → Bool
counts net past i b = counts_for (guard_of net i) (booted_since past i) (toggle_in net past i) b

-- what an error control message of i with this byte is: something that was heard, where it counts, else nothing
abbrev pub heard_if : Bool → ℕ → ℕ → ℕ → Past
heard_if true now i b = (now, moment.Happened (happening.Heard i b)) ∷ []
heard_if false now i b = []

abbrev pub heard_at : Network → Past → ℕ → ℕ → ℕ → Past
heard_at net past now i b = heard_if (counts net past i b) now i b
