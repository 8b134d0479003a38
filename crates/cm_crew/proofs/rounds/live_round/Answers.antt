use Rattle.cm_crew.proofs.Attempts.{from_forgotten, log_heard}
use Rattle.cm_crew.proofs.rounds.live_round.Goals as goal

pub returns-clause-round : goal.returns-clause-round
returns-clause-round g c =
    from_forgotten g.K.HistoryName.net c.args.id g.P.Port.sends g.B.BusName.format g.B.BusName.text c.args.most c.round_by.result c.args.seat.now.list c.round_by.new.seat.list c.forget.new.self c.args.bus.now c.round_by.new.bus c.round_by.ensures.round
    c.forget.ensures.log c.forget.ensures.heard c.forget.ensures.begun c.forget.ensures.ended c.forget.ensures.port

pub returns-clause-heard : goal.returns-clause-heard
returns-clause-heard g c =
    log_heard g.K.HistoryName.net c.args.id g.P.Port.sends g.B.BusName.format g.B.BusName.text c.args.most c.round_by.result c.args.seat.now.list c.round_by.new.seat.list c.args.bus.now c.round_by.new.bus c.requires.1
    (from_forgotten g.K.HistoryName.net c.args.id g.P.Port.sends g.B.BusName.format g.B.BusName.text c.args.most c.round_by.result c.args.seat.now.list c.round_by.new.seat.list c.forget.new.self c.args.bus.now c.round_by.new.bus c.round_by.ensures.round
    c.forget.ensures.log c.forget.ensures.heard c.forget.ensures.begun c.forget.ensures.ended c.forget.ensures.port)
