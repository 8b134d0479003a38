-- A frame says nothing where it says nothing of each kind.
use Rattle.std.proofs.Common.{ℕ}
use Rattle.cm_nmt.specs.declared.frame.Frame.{Frame}
use Rattle.cm_can.specs.Emergencies.{IsEmergency}
use Rattle.cm_can.specs.Remarks.{IsMessage, IsRemark}
use Rattle.cm_can.specs.declared.emergency.Emergency.{Emergency}
use Rattle.cm_can.specs.declared.frame.CanFrame.{CanFrame}
use Rattle.cm_can.specs.declared.remark.Remark.{Remark}
use Rattle.cm_can.specs.declared.remark.Remark.TheVariants as remark

pub no_remark : (f : CanFrame) → ((node : ℕ) (e : Emergency) → IsEmergency node e f → ⊥) → ((node : ℕ) → IsRemark f (remark.BootUp node) → ⊥)
    → ((m : Frame) → IsMessage m f → ⊥) → (r : Remark) → IsRemark f r → ⊥
no_remark f no_emergency no_boot_up no_message (remark.Emergency node e) says = no_emergency node e says
no_remark f no_emergency no_boot_up no_message (remark.BootUp node) says = no_boot_up node says
no_remark f no_emergency no_boot_up no_message (remark.Message m) says = no_message m says
no_remark f no_emergency no_boot_up no_message (remark.Error e) says = says
no_remark f no_emergency no_boot_up no_message (remark.Doubled node) says = says
