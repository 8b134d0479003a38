use Rattle.cm_boot.specs.BootView.{view_of}
use Rattle.cm_boot.specs.Progress.{terms}
use Rattle.cm_boot.proofs.Reached.{proper_reached}
use Rattle.cm_boot.proofs.Talked.{asked_few}
use Rattle.cm_boot.proofs.boot.Boot.answers.Goals as goal

pub returns-clause-few : goal.returns-clause-few
returns-clause-few c = rw (← c.self.view_is) (asked_few (view_of c.self.inside) c.self.invariant)

pub returns-clause-reached : goal.returns-clause-reached
returns-clause-reached c = rw (← c.self.view_is) (proper_reached (terms (view_of c.self.inside)) c.self.inside.answers c.self.invariant.four c.self.invariant.proper)
