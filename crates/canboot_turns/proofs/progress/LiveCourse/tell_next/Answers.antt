use Rattle.std.proofs.Common.{sym, subst}
use Rattle.cm_history.specs.declared.call.Entry.{Entry}
use Rattle.canboot_turns.specs.Going.{Follows, counts_in, placed_in}
use Rattle.canboot_turns.specs.declared.progress.Progress.{Progress}
use Rattle.canboot_turns.proofs.progress.LiveCourse.tell_next.Goals as goal

pub returns-clause-follows : goal.returns-clause-follows
returns-clause-follows g c = λ s past f.
    subst (λ (p : Progress Entry). Follows p c.args.self.now.network.now s past) (sym c.tell_untold.ensures.progress)
    (record {
      watches = f.watches;
      tries = f.tries;
      arrived = f.arrived;
      said = _;
      tells = c.in-Some.ensures.tells f.arrived (placed_in past) f.said (counts_in c.args.self.now.network.now past) f.tells;
    })
