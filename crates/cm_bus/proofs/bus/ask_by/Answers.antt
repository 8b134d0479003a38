use Rattle.cm_bus.proofs.Waiting.{asked_whole}
use Rattle.cm_bus.proofs.bus.ask_by.Goals as goal

pub returns-clause-asked : goal.returns-clause-asked
returns-clause-asked g c =
    asked_whole g.P.Port.sends g.met.P.Port.sends_more c.args.id c.args.question.now c.answer_in.result c.wait_for-reply.result c.args.port.now c.send_request.new.port c.wait_for-reply.new.port c.close_transfer.new.port
    c.args.log.now.items c.send_request.new.log.items c.wait_for-reply.new.log.items c.close_transfer.new.log.items
    c.send_request.ensures.asking c.wait_for-reply.ensures.waited c.wait_for-reply.ensures.sent c.close_transfer.ensures.closing c.answer_in.ensures
