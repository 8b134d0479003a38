use Rattle.std.proofs.Common.{ap}
use Rattle.cm_watch.specs.declared.course.Course.{Course}
use Rattle.cm_watch.proofs.watch.Watch.phase.Goals as goal

pub returns : goal.returns
returns c = λ net s past w. ap (λ (x : Course). x.phase) w.course
