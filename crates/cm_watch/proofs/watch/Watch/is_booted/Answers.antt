use Rattle.std.proofs.Common.{◌∙◌, ap, arith, is_some}
use Rattle.cm_watched.specs.declared.slave.Slave.{Slave}
use Rattle.cm_watch.proofs.watch.Watch.is_booted.Goals as goal

pub returns : goal.returns
returns c = λ net s past w. c.is_some.ensures ∙ ap (λ (k : Slave). is_some k.booted) (c.slave.ensures ∙ w.slaves c.args.id (omega arith) (omega arith))
