use Rattle.std.proofs.Common.{refl}
use Rattle.canboot_turns.specs.Causes.{stand_of}
use Rattle.canboot_turns.specs.declared.ending.Ending.TheVariants.{Asked}
use Rattle.canboot_turns.proofs.Going.{asked_on, on_and_on, passed_on, still}
use Rattle.canboot_turns.proofs.watching.Watcher.hear_all.Goals as goal

pub loop-init : goal.loop-init
loop-init g c = still g.B.BusName.format g.B.BusName.text g.B.BusName.typed (stand_of c.args.self.now) (stand_of c.args.self.now) refl refl refl (λ s past f. f)

pub loop-preserved : goal.loop-preserved
loop-preserved g c = on_and_on g.B.BusName.format g.B.BusName.text g.B.BusName.typed (stand_of c.args.self.now) (stand_of c.loop.self) (stand_of c.hear.new.self) c.loop.invariant c.in_ok-hear.ensures.goes_on

pub returns-in_err-hear-clause-quits : goal.returns-in_err-hear-clause-quits
returns-in_err-hear-clause-quits g c = λ e.
    asked_on g.B.BusName.format g.B.BusName.text g.B.BusName.typed (stand_of c.args.self.now) (stand_of c.loop.self) (stand_of c.hear.new.self) c.loop.invariant
    (c.hear.ensures.quits (passed_on c.hear.result c.from_residual.result c.in_err-hear.field-0.0 Asked c.in_err-hear.was c.from_residual.ensures.1 e))
