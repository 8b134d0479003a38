-- Pasts: what has happened in a live run and which steps were given, each with its time, the newest first (own).
use Rattle.std.specs.Prelude.{ℕ, List, [], ◌∷◌}
use Rattle.cm_history.specs.declared.call.Entry.{Entry}
use Rattle.cm_watched.specs.declared.happening.Happening.TheVariants as happening
use Rattle.cm_watched.specs.declared.happening.Moment.{Moment}
use Rattle.cm_watched.specs.declared.happening.Moment.TheVariants as moment

-- moments with their times, in ms since the run began
abbrev pub Past : Type 0
Past = List (ℕ × Moment)

-- these entries, and the one of a call in front of them
abbrev pub with_entry : Moment → List Entry → List Entry
with_entry (moment.Happened (happening.Called e)) entries = e ∷ entries
with_entry _ entries = entries

-- the entries of the calls in a past, the newest first
abbrev pub entries_in : Past → List Entry
entries_in [] = []
entries_in (x ∷ past) = with_entry x.1 (entries_in past)
