use Rattle.std.proofs.Common.{◌∙◌, List, refl, subst}
use Rattle.cm_watch.specs.ErrorControl.{error_control_at}
use Rattle.cm_watch.specs.Steps.{given}
use Rattle.cm_watch.specs.Watches.{Watches}
use Rattle.cm_watched.specs.declared.happening.Step.{Step}
use Rattle.canboot_turns.specs.Sendings.{HasSentSteps}
use Rattle.canboot_turns.proofs.Going.{follows_given}
use Rattle.canboot_turns.proofs.Sendings.{sent_tried}
use Rattle.canboot_turns.proofs.progress.LiveCourse.send_error_control.Goals as goal

pub returns-clause-sent : goal.returns-clause-sent
returns-clause-sent g c = λ s past f.
    subst (λ (xs : List Step). HasSentSteps g.W.Write.contents c.args.self.now.network.now xs c.args.outlet.now.outlet c.send_steps.new.outlet.outlet)
    (c.as_slice.ensures.value ∙ c.in_ok-steps.ensures.steps s past f.watches) c.send_steps.ensures

pub returns-clause-given : goal.returns-clause-given
returns-clause-given g c = λ s past f.
    let net = c.args.self.now.network.now in
    let steps = error_control_at net s past c.args.now in
    follows_given c.args.self.now.progress _ net s past c.args.now steps refl f
    (subst (λ (xs : List Step). Watches c.error_control.new.self net s (given c.args.now xs past)) (c.in_ok-steps.ensures.steps s past f.watches) (c.in_ok-steps.ensures.given s past f.watches))
    (sent_tried net s c.args.self.now.progress.tried c.args.now past f.tries)
