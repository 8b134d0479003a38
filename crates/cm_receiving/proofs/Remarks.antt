-- What a frame says stands where the frame does.
use Rattle.std.proofs.Common.{ℕ, List, Option}
use Rattle.cm_can.specs.Remarks.{IsRemark}
use Rattle.cm_can.specs.declared.format.Format.{Format}
use Rattle.cm_can.specs.declared.frame.CanFrame.{CanFrame}
use Rattle.cm_can.specs.declared.remark.Remark.{Remark}
use Rattle.cm_can.specs.declared.remark.Remark.TheVariants as remark
use Rattle.cm_receiving.specs.Places.{StandsIn}
use Rattle.cm_receiving.specs.Remarks.{IsRemarkAt}

pub remark_at : (format : Format) (text : Option (List ℕ)) (place : ℕ) (f : CanFrame) (r : Remark) → IsRemark f r → StandsIn format text place f → IsRemarkAt format text place r
remark_at format text place f (remark.Emergency node e) is stands = (f, is, stands)
remark_at format text place f (remark.BootUp node) is stands = (f, is, stands)
remark_at format text place f (remark.Message m) is stands = (f, is, stands)
remark_at format text place f (remark.Error e) is stands = absurd is
remark_at format text place f (remark.Doubled node) is stands = absurd is
