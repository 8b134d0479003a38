-- In what lines frames are written (own; can-utils, SLCAN).
use Rattle.std.specs.Prelude.{◌≡◌, ℕ, Bool, false, List, [], ◌∷◌, ◌++◌, Option, Some, codes}
use Rattle.std.specs.Io.KnownBytes.{Appends}
use Rattle.cm_nmt.specs.declared.frame.Frame.{Frame}
use Rattle.cm_nmt.specs.Frames.{frame_bytes}
use Rattle.cm_can.specs.declared.frame.CanFrame.{CanFrame}
use Rattle.cm_can.specs.Frames.{IsData}
use Rattle.cm_can.specs.Lines.{IsAdapterText, IsFrameText}
use Rattle.cm_text.specs.Fronts.{AppendsFront}
use Rattle.cm_can.specs.declared.format.Format.{Format}
use Rattle.cm_bus.specs.declared.outlet.Outlet.{Outlet}
use Rattle.cm_can.specs.declared.format.Format.TheVariants.{CanUtils, Adapter}

-- a line that `canplayer` reads: a time, which it doesn't heed, an interface, and the text of a frame
abbrev pub log_line : List ℕ → List ℕ
log_line text = codes "(0000000000.000000) can0 " ++ text ++ 10 ∷ []

-- a line of a serial adapter, which ends with a carriage return
abbrev pub adapter_line : List ℕ → List ℕ
adapter_line text = text ++ 13 ∷ []

-- the line of a frame
abbrev pub IsLine : Format → CanFrame → List ℕ → Type 0
IsLine CanUtils f line = (text : List ℕ) × IsFrameText text f × (line ≡ log_line text)
IsLine Adapter f line = (text : List ℕ) × IsAdapterText text f × (line ≡ adapter_line text)

-- just the line of the frame was written
abbrev pub Writes : Format → CanFrame → Option (List ℕ) → Option (List ℕ) → Type 0
Writes format f old new = (line : List ℕ) × IsLine format f line × Appends old new line

-- the first bytes of the line of the frame were written, all of them or fewer, and nothing else
abbrev pub WritesFront : Format → CanFrame → Option (List ℕ) → Option (List ℕ) → Type 0
WritesFront format f old new = (line : List ℕ) × IsLine format f line × AppendsFront old new line

-- just the line of the message that is the NMT frame was written (CiA 301: identifier 000h and its two bytes)
abbrev pub WritesMessage : Format → Frame → Option (List ℕ) → Option (List ℕ) → Type 0
WritesMessage format frame old new = (f : CanFrame) × IsData f 0 (frame_bytes frame) × Writes format f old new

-- the first bytes of that line were written, all of them or fewer, and nothing else
abbrev pub WritesMessageFront : Format → Frame → Option (List ℕ) → Option (List ℕ) → Type 0
WritesMessageFront format frame old new = (f : CanFrame) × IsData f 0 (frame_bytes frame) × WritesFront format f old new

-- a text of lines, one for each frame, of the messages that are these NMT frames
abbrev pub AreMessageLines : Format → List Frame → List ℕ → Type 0
AreMessageLines format [] text = text ≡ []
AreMessageLines format (frame ∷ frames) text =
    (f : CanFrame) × (line : List ℕ) × (rest : List ℕ)
    × IsData f 0 (frame_bytes frame) × IsLine format f line × AreMessageLines format frames rest × (text ≡ line ++ rest)

-- just the lines of these messages were written, in their order
abbrev pub WritesMessages : Format → List Frame → Option (List ℕ) → Option (List ℕ) → Type 0
WritesMessages format frames old new = (text : List ℕ) × AreMessageLines format frames text × Appends old new text

-- what contracts see of a wire to a bus: the frames sent, the room for more, whether a write has failed, and what the writer
-- has
pub record LiveWireView : Type 0 where
  pub sent : List Frame
  pub room : ℕ
  pub failed : Bool
  pub contents : Option (List ℕ)

-- an outlet is there, to which, where no write of it has failed, just the lines of these messages were written
pub record HasSent {W : Type 0} (contents : W → Option (List ℕ)) (format : Format) (frames : List Frame)
    (before : Option (List ℕ)) (now : Option (Outlet W)) : Type 0 where
  pub last : Outlet W
  pub there : now ≡ Some last
  pub written : last.failed ≡ false → WritesMessages format frames before (contents last.writer)

-- an outlet was there, and is there, to which, where no write of it has failed, just the lines of these messages were written
pub record SendsMessages {W : Type 0} (contents : W → Option (List ℕ)) (frames : List Frame) (old new : Option (Outlet W)) : Type 0 where
  pub first : Outlet W
  pub had : old ≡ Some first
  pub sent : HasSent contents first.format frames (contents first.writer) new

-- no write of the outlet has failed, if there is one
abbrev pub IsWell : {W : Type 0} → Option (Outlet W) → Type 0
IsWell {W} now = (last : Outlet W) → now ≡ Some last → last.failed ≡ false
