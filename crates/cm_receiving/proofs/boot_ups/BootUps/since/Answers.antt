use Rattle.std.proofs.Common.{◌∙◌}
use Rattle.cm_receiving.proofs.BootUps.{kept_of}
use Rattle.cm_receiving.proofs.boot_ups.BootUps.since.Goals as goal

pub returns-in-Some : goal.returns-in-Some
returns-in-Some g c = λ n is.
    kept_of g.B.BusName.format g.B.BusName.text c.self.inside.last c.self.inside.taken c.args.self.now n c.in-Some.node c.from.result c.self.view_is c.self.invariant
    ((c.in-Some.ensures.exact n).1 is) (c.from.ensures ∙ c.get.ensures.value) is.0
