-- How error frames stand in lines of `candump -L` (can-utils; Linux, `linux/can/error.h`).
use Rattle.std.specs.Prelude.{◌≡◌, ℕ, List, ◌++◌, codes, length, slice_index}
use Rattle.cm_can.specs.Frames.{data_of}
use Rattle.cm_can.specs.Lines.{AreBytes, IsFrameText, IsLog}
use Rattle.cm_can.specs.declared.can_error.CanError.{CanError}
use Rattle.cm_can.specs.declared.frame.CanFrame.{CanFrame}
use Rattle.cm_can.specs.declared.frame.Kind.TheVariants.{Data}

-- the frame says this error: it has the error class as its identifier, and eight bytes, of which the second is that of the controller
pub record IsErrorFrame (f : CanFrame) (e : CanError) : Type 0 where
  pub carries : f.kind ≡ Data
  pub class : f.id.number ≡ e.class.0
  pub eight : length (data_of f) ≡ 8
  pub controller : slice_index (data_of f) 1 ≡ e.controller.0

-- an error frame in digits: 20000000h and its class, of which the lowest 11 bits may be set, in eight of them, then `#` and its bytes
pub record IsErrorText (text : List ℕ) (e : CanError) : Type 0 where
  pub rest : List ℕ
  pub frame : CanFrame
  pub parts : text ≡ codes "20000" ++ rest
  pub bytes : AreBytes (data_of frame)
  pub spelled : IsFrameText rest frame
  pub says : IsErrorFrame frame e

-- a line of an error frame
abbrev pub IsErrorLine : List ℕ → CanError → Type 0
IsErrorLine line e = (text : List ℕ) × IsLog line text × IsErrorText text e
