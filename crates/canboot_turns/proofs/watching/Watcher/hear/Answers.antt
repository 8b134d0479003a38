use Rattle.std.proofs.Common.{ap}
use Rattle.canboot_turns.specs.Causes.{stand_of}
use Rattle.canboot_turns.proofs.Going.{happened_on}
use Rattle.canboot_turns.proofs.watching.Watcher.hear.Goals as goal

pub returns-clause-goes_on : goal.returns-clause-goes_on
returns-clause-goes_on g c =
    let before = c.args.self.now in
    happened_on g.B.BusName.format g.B.BusName.text g.B.BusName.typed c.in-Some.notification before.course.options.seconds (stand_of before) (stand_of c.take.new.self) c.now-now.result (ap (λ n. n.now) c.in_ok-take.ensures.network) c.take.ensures.heard
    c.in_ok-take.ensures.told
