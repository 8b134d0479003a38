use Rattle.std.proofs.Common.{◌∙◌, ◌∷◌, ap, sym, subst}
use Rattle.cm_history.specs.declared.call.Entry.{Entry}
use Rattle.cm_telling.specs.Tried.{Tries}
use Rattle.cm_watched.specs.declared.happening.Moment.TheVariants.{Gave}
use Rattle.canboot_turns.specs.declared.progress.Progress.{Progress}
use Rattle.canboot_turns.proofs.watching.Watcher.make.Goals as goal

pub returns-in-Some-clause-tries : goal.returns-in-Some-clause-tries
returns-in-Some-clause-tries g c = λ now past t.
    subst (λ (p : Progress Entry). Tries p.tried ((now, Gave c.args.step.now) ∷ past)) (sym (ap (λ k. k.progress) c.call.ensures.course ∙ c.do_beside.ensures.progress))
    (c.give.ensures now past t)

pub returns-in-None-clause-tries : goal.returns-in-None-clause-tries
returns-in-None-clause-tries g c = λ now past t.
    subst (λ (p : Progress Entry). Tries p.tried ((now, Gave c.args.step.now) ∷ past)) (sym c.do_beside.ensures.progress) (c.give.ensures now past t)
