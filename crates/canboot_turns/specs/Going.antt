-- How what is kept of a live run goes on with what happens (own).
use Rattle.std.specs.Prelude.{◌≡◌, ◌+◌, ◌*◌, ◌++◌, ◌∷◌, [], ℕ, List, length, map, Option, Some, None}
use Rattle.cm_crew.specs.CallsMade.{calls_made}
use Rattle.cm_history.specs.OrderFrames.{frames_of}
use Rattle.cm_history.specs.declared.call.Entry.{Entry}
use Rattle.cm_operator.specs.Console.{asked_by}
use Rattle.cm_operator.specs.declared.console.Command.{Command}
use Rattle.cm_operator.specs.declared.console.Command.TheVariants.{Quit}
use Rattle.cm_receiving.specs.Places.{LineStandsIn}
use Rattle.cm_receiving.specs.declared.notification.Notification.{Notification}
use Rattle.cm_receiving.specs.declared.notification.Notification.TheVariants as live
use Rattle.cm_netlist.specs.Network.{Network, listing}
use Rattle.cm_register.specs.SeatViews.{SeatView}
use Rattle.cm_watched.specs.Pasts.{Past}
use Rattle.cm_telling.specs.Tried.{Tries}
use Rattle.cm_telling.specs.Waiting.{Gives, Tells, placed_at}
use Rattle.cm_watch.specs.Watches.{Watches}
use Rattle.cm_watched.specs.declared.happening.Happening.TheVariants as happening
use Rattle.cm_watched.specs.declared.happening.Moment.{Moment}
use Rattle.cm_watched.specs.declared.happening.Moment.TheVariants as moment
use Rattle.cm_telling.specs.declared.in_order.Placed.{Placed}
use Rattle.cm_watched.specs.declared.settings.Settings.{Settings}
use Rattle.cm_telling.specs.declared.waiting.Untold.{Untold}
use Rattle.canboot_turns.specs.Asking.{asked_of, calls_asked}
use Rattle.canboot_turns.specs.declared.progress.Progress.{Progress}

-- ---- what is kept of a live run

-- these entries with their places, and that of a call behind them
abbrev pub placed_by : Moment → List (Placed Entry) → List (Placed Entry)
placed_by (moment.Happened (happening.Called e)) placed = placed ++ placed_at (length placed) e ∷ []
placed_by _ placed = placed

-- the entries in a past with their places, the oldest first
abbrev pub placed_in : Past → List (Placed Entry)
placed_in [] = []
placed_in (x ∷ past) = placed_by x.1 (placed_in past)

-- these numbers of frames, and that of a call behind them
abbrev pub counts_by : Network → Moment → List ℕ → List ℕ
counts_by net (moment.Happened (happening.Called e)) counts = counts ++ length (frames_of (listing net) e.orders) ∷ []
counts_by net _ counts = counts

-- how many frames each entry in a past has, the oldest first
abbrev pub counts_in : Network → Past → List ℕ
counts_in net [] = []
counts_in net (x ∷ past) = counts_by net x.1 (counts_in net past)

-- what is kept goes by this past: the watch has it, what came of the boots is what it says, and of its entries, in their order and at
-- their places, some were told in words, and the others wait, each for its frames and those of all before it
pub record Follows (p : Progress Entry) (net : Network) (s : Settings) (past : Past) : Type 0 where
  pub watches : Watches p.watch net s past
  pub tries : Tries p.tried past
  pub arrived : List (Placed Entry)
  pub said : List (Untold Entry)
  pub tells : Tells p.waiting arrived (placed_in past) said (counts_in net past)

-- the same, and this entry comes next: it is to be told to the watch, and to wait
pub record ComesNext (p : Progress Entry) (net : Network) (s : Settings) (past : Past) (e : Entry) : Type 0 where
  pub watches : Watches p.watch net s past
  pub tries : Tries p.tried past
  pub arrived : List (Placed Entry)
  pub said : List (Untold Entry)
  pub gives : Gives p.waiting arrived (placed_in past) said (counts_in net past) e

-- ---- what is taken

-- these entries, the newest first, as they are told at a time
abbrev pub called_at : ℕ → List Entry → Past
called_at now entries = map (λ (e : Entry). (now, moment.Happened (happening.Called e))) entries

-- entries came at this time, and nothing else
pub record HasToldEntries (p : Progress Entry) (net : Network) (s : Settings) (past : Past) (now : ℕ) : Type 0 where
  pub entries : List Entry
  pub follows : Follows p net s (called_at now entries ++ past)

-- a line that was typed: the watch was told what it asks of it, and the operator's seat has made just the calls that it asks for
pub record HasObeyedLine (typed : Option (List ℕ)) (p : Progress Entry) (net : Network) (s : Settings) (past : Past) (now : ℕ)
    (old new : SeatView) : Type 0 where
  pub place : ℕ
  pub line : List ℕ
  pub stands : LineStandsIn typed place line
  pub follows : Follows p net s (asked_of (asked_by line) net past now ++ past)
  pub made : calls_made new ≡ calls_made old ++ calls_asked (asked_by line) net past

-- the run is to end so many seconds behind the time at which nothing is typed any more, where it was said how many
abbrev pub ends_behind : Option ℕ → ℕ → Past
ends_behind None now = []
ends_behind (Some seconds) now = (now, moment.Happened (happening.Ends (now + seconds * 1000))) ∷ []

-- what comes, at its time, of what has happened in a live run that goes on so many seconds once nothing is typed any more: the watch is
-- told of the end of a worker's attempts, the entries that come next in the history, when the
-- run is to end; a line that was typed is obeyed; of what else comes it is told nothing, and no call is made
abbrev pub HasTaken : Notification → Option ℕ → Option (List ℕ) → Progress Entry → Network → Settings → Past → ℕ → SeatView → SeatView → Type 0
HasTaken (live.Ended i fault) seconds typed p net s past now old new =
    (new ≡ old) × Follows p net s ((now, moment.Happened (happening.Ended i)) ∷ past)
HasTaken (live.Entered position e) seconds typed p net s past now old new = (new ≡ old) × HasToldEntries p net s past now
HasTaken live.Typed seconds typed p net s past now old new = HasObeyedLine typed p net s past now old new
HasTaken live.NoMoreTyped seconds typed p net s past now old new =
    (new ≡ old) × Follows p net s (ends_behind seconds now ++ past)
HasTaken _ seconds typed p net s past now old new = (new ≡ old) × Follows p net s past

-- the end of the run was asked for: the watch was told of it, and no call was made
pub record HasQuit (asked : Option Command) (now : ℕ) (net : Network) (old : Progress Entry) (was : SeatView) (new : Progress Entry)
    (is : SeatView) : Type 0 where
  pub quit : asked ≡ Some Quit
  pub told : (s : Settings) (past : Past) → Follows old net s past → Follows new net s (asked_of asked net past now ++ past)
  pub made : calls_made is ≡ calls_made was
