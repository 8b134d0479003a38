-- What a live run sends for error control (CiA 301).
use Rattle.std.specs.Prelude.{◌≡◌, ◌+◌, ℕ, Bool, true, false, List, [], ◌∷◌, ◌++◌, Option}
use Rattle.std.specs.Io.KnownBytes.{Appends}
use Rattle.cm_can.specs.Control.{IsErrorControl}
use Rattle.cm_can.specs.Frames.{IsRemote}
use Rattle.cm_can.specs.declared.frame.CanFrame.{CanFrame}
use Rattle.cm_bus.specs.Outlets.{IsLine}
use Rattle.cm_can.specs.declared.format.Format.{Format}
use Rattle.cm_bus.specs.declared.outlet.Outlet.{Outlet}
use Rattle.cm_netlist.specs.Network.{Network}
use Rattle.cm_watched.specs.declared.happening.Step.{Step}
use Rattle.cm_watched.specs.declared.happening.Step.TheVariants as step

-- the frame that a step is: the manager's heartbeat is an error control message of its own node-ID, and a slave is asked for its state
-- by a remote frame of 700h + node-ID; every other step is none
abbrev pub IsFrameFor : Network → Step → CanFrame → Type 0
IsFrameFor net (step.Beat byte) f = IsErrorControl net.own byte f
IsFrameFor net (step.Guard i) f = IsRemote f (0x0700 + i)
IsFrameFor net _ f = ⊥

abbrev pub is_frame : Step → Bool
is_frame (step.Beat byte) = true
is_frame (step.Guard i) = true
is_frame _ = false

-- a text of lines, one for each step that is a frame
abbrev pub AreStepLines : Format → Network → List Step → List ℕ → Type 0
AreStepLines format net [] text = text ≡ []
AreStepLines format net (step.Beat byte ∷ steps) text =
    (f : CanFrame) × (line : List ℕ) × (rest : List ℕ)
    × IsFrameFor net (step.Beat byte) f × IsLine format f line × AreStepLines format net steps rest × (text ≡ line ++ rest)
AreStepLines format net (step.Guard i ∷ steps) text =
    (f : CanFrame) × (line : List ℕ) × (rest : List ℕ)
    × IsFrameFor net (step.Guard i) f × IsLine format f line × AreStepLines format net steps rest × (text ≡ line ++ rest)
AreStepLines format net (_ ∷ steps) text = AreStepLines format net steps text

-- just the lines of these steps' frames were written, in their order
abbrev pub WritesSteps : Format → Network → List Step → Option (List ℕ) → Option (List ℕ) → Type 0
WritesSteps format net steps old new = (text : List ℕ) × AreStepLines format net steps text × Appends old new text

-- the same, to an outlet of which no write has failed
abbrev pub HasSentSteps : {W : Type 0} → (W → Option (List ℕ)) → Network → List Step → Outlet W → Outlet W → Type 0
HasSentSteps {W} contents net steps old new =
    new.failed ≡ false → WritesSteps old.format net steps (contents old.writer) (contents new.writer)
