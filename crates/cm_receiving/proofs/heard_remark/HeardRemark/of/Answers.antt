use Rattle.std.proofs.Common.{ℕ, subst, sym}
use Rattle.cm_can.specs.Remarks.{IsRemark}
use Rattle.cm_can.specs.declared.frame.CanFrame.{CanFrame}
use Rattle.cm_receiving.specs.Places.{StandsIn}
use Rattle.cm_receiving.proofs.Remarks.{remark_at}
use Rattle.cm_receiving.proofs.heard_remark.HeardRemark.of.Goals as goal

pub invariant_of-result : goal.invariant_of-result
invariant_of-result g c =
    remark_at g.B.BusName.format g.B.BusName.text c.place.result c.args.received.now.frame c.in_ok-remark.remark
    (subst (λ (f : CanFrame). IsRemark f c.in_ok-remark.remark) c.frame.ensures.frame c.in_ok-remark.ensures.some)
    (subst (λ (p : ℕ). StandsIn g.B.BusName.format g.B.BusName.text p c.args.received.now.frame) (sym c.place.ensures) c.frame.ensures.stands)
