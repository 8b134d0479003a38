use Rattle.std.proofs.Common.{◌∙◌, List, sym, subst}
use Rattle.cm_watch.specs.Limits.{AreLimited}
use Rattle.cm_watch.specs.Steps.{given}
use Rattle.cm_watch.specs.Watches.{Watches}
use Rattle.cm_watched.specs.declared.happening.Step.{Step}
use Rattle.cm_watch.proofs.Limits.{steps_limited}
use Rattle.cm_watch.proofs.Steps.{same_steps}
use Rattle.cm_watch.proofs.watch.Watch.turn.Goals as goal

pub returns-clause-steps : goal.returns-clause-steps
returns-clause-steps c = λ s past w. c.in_ok-steps.ensures ∙ same_steps c.args.self.now c.args.network.now s past w c.args.now_ms

pub returns-clause-given : goal.returns-clause-given
returns-clause-given c = λ s past w.
    subst (λ (xs : List Step). Watches c.give.new.self c.args.network.now s (given c.args.now_ms xs past)) c.as_slice.ensures.value (c.give.ensures s past w)

pub returns-clause-limited : goal.returns-clause-limited
returns-clause-limited c = λ s past i w limited.
    let net = c.args.network.now in
    subst (λ (xs : List Step). AreLimited net s (given c.args.now_ms xs past) i) (sym (c.in_ok-steps.ensures ∙ same_steps c.args.self.now net s past w c.args.now_ms))
    (steps_limited net s c.args.now_ms past i limited)
