use Rattle.std.proofs.Common.{ap, refl}
use Rattle.canboot_turns.specs.Causes.{stand_of}
use Rattle.canboot_turns.specs.declared.ending.Ending.TheVariants.{Asked}
use Rattle.canboot_turns.proofs.Going.{asked_on, happened_on, on_and_on, passed_on, still}
use Rattle.canboot_turns.proofs.watching.Watcher.obey_some.Goals as goal

pub loop-init : goal.loop-init
loop-init g c = still g.B.BusName.format g.B.BusName.text g.B.BusName.typed (stand_of c.args.self.now) (stand_of c.args.self.now) refl refl refl (λ s past f. f)

pub loop-preserved : goal.loop-preserved
loop-preserved g c =
    let before = c.loop.self in
    let after = c.take.new.self in
    on_and_on g.B.BusName.format g.B.BusName.text g.B.BusName.typed (stand_of c.args.self.now) (stand_of before) (stand_of after) c.loop.invariant
    (happened_on g.B.BusName.format g.B.BusName.text g.B.BusName.typed c.in-Some.notification before.course.options.seconds (stand_of before) (stand_of after) c.now-now.result (ap (λ n. n.now) c.in_ok-take.ensures.network) c.take.ensures.heard
    c.in_ok-take.ensures.told)

pub returns-in_err-take-clause-quits : goal.returns-in_err-take-clause-quits
returns-in_err-take-clause-quits g c = λ e.
    asked_on g.B.BusName.format g.B.BusName.text g.B.BusName.typed (stand_of c.args.self.now) (stand_of c.loop.self) (stand_of c.take.new.self) c.loop.invariant
    (c.take.ensures.quits (passed_on c.take.result c.from_residual.result c.in_err-take.field-0.0 Asked c.in_err-take.was c.from_residual.ensures.1 e))
