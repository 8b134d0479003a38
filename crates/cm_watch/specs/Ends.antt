-- When the run is to end, told from the past (own).
use Rattle.std.specs.Prelude.{ℕ, Bool, false, nat_le, [], ◌∷◌, Option, Some, None}
use Rattle.cm_watched.specs.Pasts.{Past}
use Rattle.cm_watched.specs.declared.happening.Happening.TheVariants as happening
use Rattle.cm_watched.specs.declared.happening.Moment.{Moment}
use Rattle.cm_watched.specs.declared.happening.Moment.TheVariants as moment
use Rattle.cm_watched.specs.declared.happening.Step.TheVariants as step

-- when the run is to end, with what was said before the moment: at the time that is told, at none where its end is given, else as
-- before
abbrev pub ends_by : Moment → Option ℕ → Option ℕ
ends_by (moment.Happened (happening.Ends at)) before = Some at
ends_by (moment.Gave step.End) before = None
ends_by _ before = before

-- the time that was told last, where the end of the run wasn't given since; none where none was told
abbrev pub ends_in : Past → Option ℕ
ends_in [] = None
ends_in (x ∷ past) = ends_by x.1 (ends_in past)

-- there is such a time, and it has come
abbrev pub has_come : ℕ → Option ℕ → Bool
has_come now None = false
has_come now (Some at) = nat_le at now

-- the run ends: the time that was told last has come, and its end wasn't given since
abbrev pub is_run_over : Past → ℕ → Bool
is_run_over past now = has_come now (ends_in past)
