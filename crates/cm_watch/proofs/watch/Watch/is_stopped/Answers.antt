use Rattle.std.proofs.Common.{ap}
use Rattle.cm_watch.specs.declared.course.Course.{Course}
use Rattle.cm_watch.proofs.watch.Watch.is_stopped.Goals as goal

pub returns : goal.returns
returns c = λ net s past w. ap (λ (x : Course). x.is_stopped) w.course
