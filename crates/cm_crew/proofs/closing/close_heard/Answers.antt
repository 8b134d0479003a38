use Rattle.cm_crew.proofs.Lists.{all_heard}
use Rattle.cm_crew.proofs.Operated.{operated, operator_made}
use Rattle.cm_crew.proofs.Starts.{each_rightly}
use Rattle.cm_crew.proofs.closing.close_heard.Goals as goal

pub returns-in-Ok-close_recorded-clause-heard : goal.returns-in-Ok-close_recorded-clause-heard
returns-in-Ok-close_recorded-clause-heard g c =
    let k = c.in-Ok-close_recorded.ensures.closed in
    all_heard g.B.BusName.format g.B.BusName.text g.K.HistoryName.net g.K.RunName.seats c.in-Ok-close_recorded.closed.0.history.items c.in-Ok.plain.items k.calls k.apart k.total c.in-Ok.ensures.received c.in-Ok.ensures.own
    (each_rightly g.B.BusName.format g.B.BusName.text g.K.HistoryName.net c.in-Ok-close_recorded.closed.0.history.items c.in-Ok-close_recorded.ensures.starts)
    c.in-Ok-close_recorded.ensures.operational

pub returns-in-Ok-close_recorded-clause-operated : goal.returns-in-Ok-close_recorded-clause-operated
returns-in-Ok-close_recorded-clause-operated g c =
    let k = c.in-Ok-close_recorded.ensures.closed in
    operated g.B.BusName.typed c.in-Ok-close_recorded.closed.0.history.items c.in-Ok.plain.items k.calls k.apart k.total c.in-Ok.ensures.others c.in-Ok.ensures.operator

pub returns-in-Ok-close_recorded-clause-calls : goal.returns-in-Ok-close_recorded-clause-calls
returns-in-Ok-close_recorded-clause-calls g c =
    operator_made c.in-Ok-close_recorded.closed.0.history.items c.in-Ok.plain.items c.args.crew.operator c.in-Ok-close_recorded.ensures.closed.calls c.in-Ok.ensures.last
