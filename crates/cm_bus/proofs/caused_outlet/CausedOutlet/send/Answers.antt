use Rattle.std.proofs.Common.{refl, subst, sym}
use Rattle.cm_bus.proofs.Sending.{written_more}
use Rattle.cm_bus.proofs.caused_outlet.CausedOutlet.send.Goals as goal

pub invariant_of-self : goal.invariant_of-self
invariant_of-self g c =
    let F = g.F.Caused in
    let old = c.self.inside.outlet in
    let new = c.send.new.self in
    written_more F.causes g.W.Write.contents g.B.BusName.format (g.B.BusName.had c.self.inside.worker) old new c.frame.result c.self.invariant
    (subst F.causes (sym c.frame.ensures) (F.caused c.args.frame.now)) c.send.ensures.format old.failed new.failed refl refl c.send.ensures.written
    c.send.ensures.front c.send.ensures.stopped
