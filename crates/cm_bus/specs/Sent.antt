-- What was written by who sends frames of one kind alone (own).
use Rattle.std.specs.Prelude.{◌≡◌, ◌+◌, ℕ, true, false, List, [], ◌∷◌, ◌++◌, Option, Some, None, get_or, map}
use Rattle.std.specs.List.{AllByRecursion}
use Rattle.std.specs.Io.KnownBytes.{Appends}
use Rattle.cm_can.specs.declared.format.Format.{Format}
use Rattle.cm_can.specs.declared.frame.CanFrame.{CanFrame}
use Rattle.cm_text.specs.Fronts.{AppendsFront}
use Rattle.cm_bus.specs.Outlets.{IsLine}
use Rattle.cm_bus.specs.declared.event.PortEvent.{PortEvent}
use Rattle.cm_bus.specs.declared.event.PortEvent.TheVariants as event
use Rattle.cm_bus.specs.declared.outlet.Outlet.{Outlet}

-- a text of lines, one for each frame
abbrev pub AreFrameLines : Format → List CanFrame → List ℕ → Type 0
AreFrameLines format [] text = text ≡ []
AreFrameLines format (f ∷ frames) text =
    (line : List ℕ) × (rest : List ℕ) × IsLine format f line × AreFrameLines format frames rest × (text ≡ line ++ rest)

-- lines of frames were written, of each of which Is is true, and nothing else: all of them where no write has failed, and else the
-- first bytes of them
pub record HasWritten {W : Type 0} (Is : CanFrame → Type 0) (contents : W → Option (List ℕ)) (format : Format)
    (before : Option (List ℕ)) (now : Outlet W) : Type 0 where
  pub spelled : now.format ≡ format
  pub frames : List CanFrame
  pub each : AllByRecursion Is frames
  pub text : List ℕ
  pub lines : AreFrameLines format frames text
  pub front : AppendsFront before (contents now.writer) text
  pub all : now.failed ≡ false → Appends before (contents now.writer) text

-- so it is of the outlets of the workers from the k-th on, in their order, behind what their writers had
abbrev pub AreWrittenFrom : {W : Type 0} → (CanFrame → Type 0) → (W → Option (List ℕ)) → Format → (Option ℕ → Option (List ℕ)) → ℕ
    → List (Outlet W) → Type 0
AreWrittenFrom Is contents format had k [] = Unit {0}
AreWrittenFrom Is contents format had k (o ∷ outlets) =
    HasWritten Is contents format (had (Some k)) o × AreWrittenFrom Is contents format had (k + 1) outlets

-- just the lines of these frames were written, in their order
abbrev pub WritesFrames : Format → List CanFrame → Option (List ℕ) → Option (List ℕ) → Type 0
WritesFrames format frames old new = (text : List ℕ) × AreFrameLines format frames text × Appends old new text

-- from the one moment to the other these frames were handed to the outlet: where no write of it has failed, just their lines were
-- written; where one had failed before, nothing was
pub record Sends {W : Type 0} (contents : W → Option (List ℕ)) (old : Outlet W) (frames : List CanFrame) (new : Outlet W) : Type 0 where
  pub format : new.format ≡ old.format
  pub stopped : old.failed ≡ true → new ≡ old
  pub written : new.failed ≡ false → WritesFrames old.format frames (contents old.writer) (contents new.writer)

-- the frames that were sent, of what went over a port
abbrev pub sent_in : List PortEvent → List CanFrame
sent_in [] = []
sent_in (event.Sent f ∷ events) = f ∷ sent_in events
sent_in (_ ∷ events) = sent_in events

-- what contracts see of an outlet for frames of one kind: the outlet, and the worker whose it is
pub record CausedOutletView (O : Type 0) : Type 0 where
  pub outlet : O
  pub worker : Option ℕ

-- what the writers had by which no NMT message is written: that of error control, and those of the workers, in their order
abbrev pub had_by : Option (List ℕ) → List (Option (List ℕ)) → Option ℕ → Option (List ℕ)
had_by control workers None = control
had_by control workers (Some k) = get_or workers k None

-- it is so of each of these workers' writers, where nothing was written by it
abbrev pub IsHadBy : {W : Type 0} → (W → Option (List ℕ)) → (Option ℕ → Option (List ℕ)) → List W → Type 0
IsHadBy {W} contents had writers = (k : ℕ) → had (Some k) ≡ get_or (map contents writers) k None
