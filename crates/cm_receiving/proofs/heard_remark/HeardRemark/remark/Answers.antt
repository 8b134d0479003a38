use Rattle.std.proofs.Common.{subst}
use Rattle.cm_receiving.specs.Remarks.{IsRemarkAt, PlacedRemark}
use Rattle.cm_receiving.proofs.heard_remark.HeardRemark.remark.Goals as goal

pub returns-clause-stands : goal.returns-clause-stands
returns-clause-stands g c = subst (λ (r : PlacedRemark). IsRemarkAt g.B.BusName.format g.B.BusName.text r.place c.self.inside.remark) c.self.view_is c.self.invariant
