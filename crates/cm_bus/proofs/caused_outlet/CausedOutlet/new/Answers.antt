use Rattle.cm_bus.proofs.Sending.{written_none}
use Rattle.cm_bus.proofs.caused_outlet.CausedOutlet.new.Goals as goal

pub invariant_of-result : goal.invariant_of-result
invariant_of-result g c =
    written_none g.F.Caused.causes g.W.Write.contents g.B.BusName.format (g.B.BusName.had c.args.worker) c.args.outlet c.requires.format c.requires.had
