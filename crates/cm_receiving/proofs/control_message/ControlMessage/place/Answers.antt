use Rattle.std.proofs.Common.{subst}
use Rattle.cm_receiving.specs.Places.{IsControlAt, PlacedControl}
use Rattle.cm_receiving.proofs.control_message.ControlMessage.place.Goals as goal

pub returns-clause-stands : goal.returns-clause-stands
returns-clause-stands g c = subst (λ (m : PlacedControl). IsControlAt g.B.BusName.format g.B.BusName.text m.place m.node m.byte) c.self.view_is c.self.invariant
