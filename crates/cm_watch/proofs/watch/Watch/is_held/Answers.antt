use Rattle.std.proofs.Common.{◌∙◌, ap, arith}
use Rattle.cm_watched.specs.declared.slave.Slave.{Slave}
use Rattle.cm_watch.proofs.watch.Watch.is_held.Goals as goal

pub returns : goal.returns
returns c = λ net s past w. ap (λ (k : Slave). k.is_held) (c.slave.ensures ∙ w.slaves c.args.id (omega arith) (omega arith))
