use Rattle.std.proofs.Common.{ℕ, subst}
use Rattle.cm_receiving.specs.Identifiers.{IsOfNode}
use Rattle.cm_receiving.specs.Places.{NoBootUp, Placed}
use Rattle.cm_receiving.proofs.received.Received.since.Goals as goal

pub returns-clause-same : goal.returns-clause-same
returns-clause-same g c =
    subst (λ (r : Placed). (n : ℕ) → IsOfNode n r.frame → NoBootUp g.B.BusName.format g.B.BusName.text n r.since r.place) c.self.view_is c.self.invariant.1
