use Rattle.std.proofs.Common.{subst, sym}
use Rattle.canboot_turns.specs.Causes.{GoesOn, stand_of}
use Rattle.canboot_turns.specs.declared.ending.Ending.TheVariants.{Asked}
use Rattle.canboot_turns.proofs.Going.{asked_on, on_and_on, passed_on}
use Rattle.canboot_turns.proofs.watching.Watcher.take_all.Goals as goal

pub returns-in_err-hear_all-2-clause-quits : goal.returns-in_err-hear_all-2-clause-quits
returns-in_err-hear_all-2-clause-quits g c = λ e.
    asked_on g.B.BusName.format g.B.BusName.text g.B.BusName.typed (stand_of c.args.self.now) (stand_of c.hear_all.new.self) (stand_of c.hear_all-2.new.self) c.in_ok-hear_all.ensures.goes_on
    (c.hear_all-2.ensures.quits (passed_on c.hear_all-2.result c.from_residual-in_err-hear_all-2.result c.in_err-hear_all-2.field-0.0 Asked c.in_err-hear_all-2.was c.from_residual-in_err-hear_all-2.ensures.1 e))

pub returns-clause-goes_on : goal.returns-clause-goes_on
returns-clause-goes_on g c =
    let began = stand_of c.args.self.now in
    let took = stand_of c.hear_all.new.self in
    let again = stand_of c.hear_all-2.new.self in
    let heard = stand_of c.hear_messages.new.self in
    subst (GoesOn g.B.BusName.format g.B.BusName.text g.B.BusName.typed began) (sym c.tell_remarks.ensures)
    (on_and_on g.B.BusName.format g.B.BusName.text g.B.BusName.typed began heard (stand_of c.obey_some.new.self)
    (on_and_on g.B.BusName.format g.B.BusName.text g.B.BusName.typed began again heard (on_and_on g.B.BusName.format g.B.BusName.text g.B.BusName.typed began took again c.in_ok-hear_all.ensures.goes_on c.in_ok-hear_all-2.ensures.goes_on) c.in_ok-hear_messages.ensures.goes_on)
    c.in_ok-obey_some.ensures.goes_on)

pub returns-in_err-obey_some-clause-quits : goal.returns-in_err-obey_some-clause-quits
returns-in_err-obey_some-clause-quits g c = λ e.
    let began = stand_of c.args.self.now in
    let took = stand_of c.hear_all.new.self in
    let again = stand_of c.hear_all-2.new.self in
    let heard = stand_of c.hear_messages.new.self in
    asked_on g.B.BusName.format g.B.BusName.text g.B.BusName.typed began heard (stand_of c.obey_some.new.self)
    (on_and_on g.B.BusName.format g.B.BusName.text g.B.BusName.typed began again heard (on_and_on g.B.BusName.format g.B.BusName.text g.B.BusName.typed began took again c.in_ok-hear_all.ensures.goes_on c.in_ok-hear_all-2.ensures.goes_on) c.in_ok-hear_messages.ensures.goes_on)
    (c.obey_some.ensures.quits (passed_on c.obey_some.result c.from_residual-in_err-obey_some.result c.in_err-obey_some.field-0.0 Asked c.in_err-obey_some.was c.from_residual-in_err-obey_some.ensures.1 e))
