use Rattle.cm_bus.specs.SendLaws.{sends_one}
use Rattle.cm_bus.proofs.live_port.LivePortPort.send.Goals as goal

pub returns-then-has_failed-clause-sent : goal.returns-then-has_failed-clause-sent
returns-then-has_failed-clause-sent g c =
    sends_one g.W.Write.contents c.args.self.now.outlet.outlet c.send.new.self.outlet c.args.request.now.frame c.send.ensures.format c.send.ensures.stopped c.send.ensures.written

pub returns-else-has_failed-clause-sent : goal.returns-else-has_failed-clause-sent
returns-else-has_failed-clause-sent g c =
    sends_one g.W.Write.contents c.args.self.now.outlet.outlet c.send.new.self.outlet c.args.request.now.frame c.send.ensures.format c.send.ensures.stopped c.send.ensures.written
