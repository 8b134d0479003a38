use Rattle.cm_receiving.proofs.BootUps.{passed}
use Rattle.cm_receiving.proofs.boot_ups.BootUps.pass.Goals as goal

pub invariant_of-self : goal.invariant_of-self
invariant_of-self g c = passed g.B.BusName.format g.B.BusName.text c.self.inside.last c.self.inside.taken c.args.self.now c.self.view_is c.self.invariant c.requires.none
