use Rattle.std.proofs.Common.{◌∙◌, ℕ, subst, sym, ap}
use Rattle.cm_receiving.specs.Places.{StandsIn}
use Rattle.cm_receiving.specs.Doubling.{answering, said_in}
use Rattle.cm_receiving.proofs.heard_remark.HeardRemark.doubled.Goals as goal

pub invariant_of-result : goal.invariant_of-result
invariant_of-result g c = (
  c.args.received.now.frame,
  ap (λ f. answering (said_in f)) (sym c.frame.ensures.frame) ∙ (sym c.answering.ensures ∙ c.in_ok-node.was),
  subst (λ (p : ℕ). StandsIn g.B.BusName.format g.B.BusName.text p c.args.received.now.frame) (sym c.place-2.ensures) c.frame.ensures.stands,
)
