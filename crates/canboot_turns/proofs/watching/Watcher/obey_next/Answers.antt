use Rattle.canboot_turns.specs.Causes.{stand_of}
use Rattle.canboot_turns.proofs.Going.{both_ok, quit_on}
use Rattle.canboot_turns.proofs.watching.Watcher.obey_next.Goals as goal

pub returns-in-Ok-clause-obeyed : goal.returns-in-Ok-clause-obeyed
returns-in-Ok-clause-obeyed g c = λ s past f.
    both_ok c.obey.result (c.obey.ensures.told s past f) (c.obey.ensures.made s past f)
    (λ follows made. record { place = c.in-Ok.line.place; line = c.in-Ok.line.line; stands = c.obey.ensures.stands; follows = follows; made = made })

pub returns-in-Ok-clause-quits : goal.returns-in-Ok-clause-quits
returns-in-Ok-clause-quits g c = λ e.
    quit_on g.B.BusName.format g.B.BusName.text g.B.BusName.typed (stand_of c.args.self.now) (stand_of c.obey.new.self) c.args.now c.in-Ok.line.place c.in-Ok.line.line c.obey.ensures.heard c.obey.ensures.stands (c.obey.ensures.quits e)
