-- What a frame says beside the answers and the states of slaves (CiA 301).
use Rattle.cm_nmt.specs.Frames.{IsTarget, frame_bytes}
use Rattle.cm_nmt.specs.declared.frame.Frame.{Frame}
use Rattle.cm_can.specs.Control.{IsErrorControl}
use Rattle.cm_can.specs.Emergencies.{IsEmergency}
use Rattle.cm_can.specs.Frames.{IsData}
use Rattle.cm_can.specs.declared.frame.CanFrame.{CanFrame}
use Rattle.cm_can.specs.declared.remark.Remark.{Remark}
use Rattle.cm_can.specs.declared.remark.Remark.TheVariants as remark

-- the frame is this NMT message: identifier 000h and its two bytes
abbrev pub IsMessage : Frame → CanFrame → Type 0
IsMessage m f = IsTarget m.target × IsData f 0 (frame_bytes m)

-- an emergency message, a boot-up message, which is an error control message with the byte 00h, or an NMT message; what the
-- interface says of the bus is no frame of it, and that two devices have one node-ID is in no single frame
abbrev pub IsRemark : CanFrame → Remark → Type 0
IsRemark f (remark.Emergency node e) = IsEmergency node e f
IsRemark f (remark.BootUp node) = IsErrorControl node 0 f
IsRemark f (remark.Message m) = IsMessage m f
IsRemark f (remark.Error e) = ⊥
IsRemark f (remark.Doubled node) = ⊥
