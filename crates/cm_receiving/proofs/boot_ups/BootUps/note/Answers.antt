use Rattle.std.proofs.Common.{◌∙◌, arith}
use Rattle.cm_receiving.proofs.BootUps.{noted}
use Rattle.cm_receiving.proofs.boot_ups.BootUps.note.Goals as goal

pub invariant_of-self : goal.invariant_of-self
invariant_of-self g c =
    noted g.B.BusName.format g.B.BusName.text c.self.inside.last c.from.result c.args.node c.self.inside.taken c.args.self.now (c.from.ensures ∙ c.get.ensures.value) c.self.view_is
    (omega (arith, c.from.ensures, c.get.ensures.range.1, c.self.ranges)) c.self.invariant c.requires.others
