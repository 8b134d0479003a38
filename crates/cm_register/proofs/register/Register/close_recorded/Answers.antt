use Rattle.std.specs.Prelude.{reverse}
use Rattle.cm_netlist.specs.Network.{listing}
use Rattle.cm_history.proofs.Started.{boots_start}
use Rattle.cm_history.proofs.Operational.{network_becomes_operational}
use Rattle.cm_register.proofs.register.Register.close_recorded.Goals as goal

pub returns-in-Ok-clause-starts : goal.returns-in-Ok-clause-starts
returns-in-Ok-clause-starts g c = boots_start (listing g.K.HistoryName.net) (reverse c.in-Ok.closed.history.items) c.in-Ok.ensures.closed.legal

pub returns-in-Ok-clause-operational : goal.returns-in-Ok-clause-operational
returns-in-Ok-clause-operational g c = network_becomes_operational (listing g.K.HistoryName.net) (reverse c.in-Ok.closed.history.items) c.in-Ok.ensures.closed.legal
