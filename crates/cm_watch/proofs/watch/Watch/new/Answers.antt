use Rattle.std.proofs.Common.{refl}
use Rattle.std.proofs.lemmas.List.{get_or-replicate}
use Rattle.cm_watch.specs.Kept.{blank_slave}
use Rattle.cm_watched.specs.declared.slave.Slave.{Slave}
use Rattle.cm_watch.proofs.watch.Watch.new.Goals as goal

pub returns : goal.returns
returns c = λ net. record {
  settings = refl;
  slaves = λ i low high. get_or-replicate {A = Slave} 128 i blank_slave blank_slave high;
  course = refl;
  ends = refl;
}
