-- By what a live run goes: what happened in it, one thing after the other, and what came of it (own).
use Rattle.std.specs.Prelude.{◌≡◌, ◌<◌, ◌≤◌, ◌++◌, ◌∷◌, [], ℕ, Bool, true, false, List, filter_map, Option, Some}
use Rattle.cm_can.specs.declared.format.Format.{Format}
use Rattle.cm_crew.specs.CallsMade.{calls_made}
use Rattle.cm_history.specs.declared.call.Call.{Call}
use Rattle.cm_history.specs.declared.call.Entry.{Entry}
use Rattle.cm_netlist.specs.Network.{Network}
use Rattle.cm_operator.specs.Console.{asked_by}
use Rattle.cm_operator.specs.declared.console.Command.TheVariants.{Quit}
use Rattle.cm_receiving.specs.Places.{IsControlAt, LineStandsIn}
use Rattle.cm_register.specs.SeatViews.{SeatView}
use Rattle.cm_watch.specs.ErrorControl.{error_control_at}
use Rattle.cm_watch.specs.Steps.{given, steps_at}
use Rattle.cm_watched.specs.Guarding.{heard_at}
use Rattle.cm_watched.specs.Pasts.{Past}
use Rattle.cm_watched.specs.declared.happening.Happening.TheVariants as happening
use Rattle.cm_watched.specs.declared.happening.Moment.TheVariants as moment
use Rattle.cm_watched.specs.declared.settings.Settings.{Settings}
use Rattle.canboot_turns.specs.Asking.{asked_of, calls_asked}
use Rattle.canboot_turns.specs.Ending.{is_ended_by}
use Rattle.canboot_turns.specs.Going.{Follows, called_at, ends_behind}
use Rattle.canboot_turns.specs.Steps.{call_for}
use Rattle.canboot_turns.specs.declared.progress.LiveCourse.{LiveCourse}
use Rattle.canboot_turns.specs.declared.progress.Progress.{Progress}
use Rattle.canboot_turns.specs.declared.watching.Watcher.{Watcher}

-- ---- what happens

-- what happens in a live run, at its time: an error control message came that stands at a place among the bytes received, of a node, with
-- its byte; entries came next in the history, the newest first; a worker's attempts at a slave ended; the line that stands at a place of
-- what is typed was obeyed; nothing is typed any more, and the run goes on for so many seconds, if it was said how many; what the watch
-- gives for error control was sent; all steps that the watch gives were made
pub data Cause : Type 0 where
  Heard : ℕ → ℕ → ℕ → ℕ → Cause
  Entered : ℕ → List Entry → Cause
  Ended : ℕ → ℕ → Cause
  Obeyed : ℕ → ℕ → List ℕ → Cause
  NoMoreTyped : ℕ → Option ℕ → Cause
  Sent : ℕ → Cause
  Made : ℕ → Cause

-- what the watch was told, and gave, once this has happened
abbrev pub past_by : Network → Settings → Cause → Past → Past
past_by net s (Heard now place i byte) past = heard_at net past now i byte ++ past
past_by net s (Entered now entries) past = called_at now entries ++ past
past_by net s (Ended now i) past = (now, moment.Happened (happening.Ended i)) ∷ past
past_by net s (Obeyed now place line) past = asked_of (asked_by line) net past now ++ past
past_by net s (NoMoreTyped now seconds) past = ends_behind seconds now ++ past
past_by net s (Sent now) past = given now (error_control_at net s past now) past
past_by net s (Made now) past = given now (steps_at net s past now) past

-- the calls that are made of it at the operator's seat: those that a line asks for, and those of the watch's steps
abbrev pub calls_by : Network → Settings → Cause → Past → List Call
calls_by net s (Obeyed now place line) past = calls_asked (asked_by line) net past
calls_by net s (Made now) past = filter_map call_for (steps_at net s past now)
calls_by net s _ past = []

-- it has its cause: the message stands at its place among the bytes received, behind `from` and up to `upto`; the line stands at its place in
-- what is typed
abbrev pub IsCause : Format → Option (List ℕ) → Option (List ℕ) → Cause → ℕ → ℕ → Type 0
IsCause format received typed (Heard now place i byte) from upto = (from < place) × (place ≤ upto) × IsControlAt format received place i byte
IsCause format received typed (Obeyed now place line) from upto = (from ≤ upto) × LineStandsIn typed place line
IsCause format received typed _ from upto = from ≤ upto

-- ---- one thing after the other, the newest first

abbrev pub past_behind : Network → Settings → List Cause → Past → Past
past_behind net s [] past = past
past_behind net s (x ∷ causes) past = past_by net s x (past_behind net s causes past)

abbrev pub calls_behind : Network → Settings → List Cause → Past → List Call
calls_behind net s [] past = []
calls_behind net s (x ∷ causes) past = calls_behind net s causes past ++ calls_by net s x (past_behind net s causes past)

-- each has its cause, and each message stands behind that of the one before
abbrev pub AreCauses : Format → Option (List ℕ) → Option (List ℕ) → List Cause → ℕ → ℕ → Type 0
AreCauses format received typed [] from upto = from ≤ upto
AreCauses format received typed (x ∷ causes) from upto =
    (mid : ℕ) × AreCauses format received typed causes from mid × IsCause format received typed x mid upto

-- ---- how a run goes on

-- how far a run has come: of which network, what is kept of it, what the operator's seat has done, and the place of the message that was
-- heard last
pub record Stand : Type 0 where
  pub net : Network
  pub progress : Progress Entry
  pub seat : SeatView
  pub heard : ℕ

abbrev pub course_stand : {R : Type 0} → LiveCourse R → SeatView → ℕ → Stand
course_stand course seat heard = record { net = course.network.now; progress = course.progress; seat = seat; heard = heard }

abbrev pub stand_of : {R K B M : Type 0} → Watcher R K B M → Stand
stand_of w = course_stand w.course w.operator w.heard_upto

-- what can be said of what happened behind a past
abbrev pub Course : Type 1
Course = Network → Settings → List Cause → Past → Type 0

-- what is kept goes by a past that goes on from this one by what happened, which has its cause, and the operator's seat has made just the
-- calls of that, each once, in their order
pub record HasGoneOn (C : Course) (format : Format) (received typed : Option (List ℕ)) (s : Settings) (past : Past) (old new : Stand) : Type 0 where
  pub causes : List Cause
  pub each : AreCauses format received typed causes old.heard new.heard
  pub follows : Follows new.progress old.net s (past_behind old.net s causes past)
  pub made : calls_made new.seat ≡ calls_made old.seat ++ calls_behind old.net s causes past
  pub course : C old.net s causes past

-- so it is, whatever was kept before
pub record GoesOnAs (C : Course) (format : Format) (received typed : Option (List ℕ)) (old new : Stand) : Type 0 where
  pub network : new.net ≡ old.net
  pub goes_on : (s : Settings) (past : Past) → Follows old.progress old.net s past → HasGoneOn C format received typed s past old new

-- anything
abbrev pub Any : Course
Any net s causes past = Unit {0}

abbrev pub GoesOn : Format → Option (List ℕ) → Option (List ℕ) → Stand → Stand → Type 0
GoesOn format received typed old new = GoesOnAs Any format received typed old new

-- last, what the watch gives for error control at this time was sent
abbrev pub HasSent : ℕ → Course
HasSent now net s (Sent at ∷ causes) past = at ≡ now
HasSent now net s _ past = ⊥

-- a turn, at whose end it is this time: what the watch gives for error control was sent, and, unless what is received has to be read
-- first, all steps were made
abbrev pub HasTurned : Bool → ℕ → Course
HasTurned true now net s (Sent at ∷ causes) past = at ≡ now
HasTurned false now net s (Made at ∷ Sent before ∷ causes) past = (at ≡ now) × (before ≡ now)
HasTurned _ now net s _ past = ⊥

-- last, a line that asks for the end of the run was obeyed, or the watch has given that end
abbrev pub EndsAsAsked : Course
EndsAsAsked net s (Obeyed now place line ∷ causes) past = asked_by line ≡ Some Quit
EndsAsAsked net s (Made now ∷ causes) past = is_ended_by (steps_at net s (past_behind net s causes past) now) ≡ true
EndsAsAsked net s _ past = ⊥

-- the run ends as it was asked to, whatever was kept before
abbrev pub IsAskedToEnd : Format → Option (List ℕ) → Option (List ℕ) → Stand → Stand → Type 0
IsAskedToEnd format received typed old new =
    (s : Settings) (past : Past) → Follows old.progress old.net s past → HasGoneOn EndsAsAsked format received typed s past old new
