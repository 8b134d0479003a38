use Rattle.std.proofs.Common.{◌≡◌, ◌∙◌, ◌<◌, ◌+◌, ◌∷◌, [], ◌++◌, List, ap, sym, arith, length, refl, take, subst}
use Rattle.std.proofs.lemmas.List.{take_all, take_more}
use Rattle.cm_can.specs.declared.format.Format.{Format}
use Rattle.cm_bus.proofs.Messages.{was_well}
use Rattle.cm_watched.specs.declared.happening.Step.{Step}
use Rattle.canboot_turns.specs.Sendings.{HasSentSteps, WritesSteps}
use Rattle.canboot_turns.proofs.Sendings.{no_steps_written, written_more}
use Rattle.canboot_turns.proofs.error_control.send_steps.Goals as goal

pub loop-step-init : goal.loop-step-init
loop-step-init g c = record { sent = λ h. no_steps_written c.args.outlet.now.outlet.format c.args.network.now _; format = refl }

pub loop-step-preserved : goal.loop-step-preserved
loop-step-preserved g c =
    let net = c.args.network.now in
    let steps : List Step = c.args.steps.now in
    let i = c.loop-step.step-index in
    let s = c.step-item.result in
    let first = c.args.outlet.now.outlet in
    let old = c.loop-step.outlet.outlet in
    let new = c.send_step.new.outlet.outlet in
    let contents = g.W.Write.contents in
    let was = c.loop-step.invariant in
    let within : i < length steps = omega arith in
    let grown : take (i + 1) steps ≡ take i steps ++ s ∷ [] = take_more steps i s within ∙ ap (λ (x : Step). take i steps ++ x ∷ []) (sym c.step-item.is) in
    record {
      sent = λ h.
          subst (λ (xs : List Step). WritesSteps first.format net xs (contents first.writer) (contents new.writer)) (sym grown)
          (written_more first.format net (take i steps) s (contents first.writer) (contents old.writer) (contents new.writer)
          (was.sent (was_well old new c.send_step.ensures.stopped h))
          (subst (λ (f : Format). WritesSteps f net (s ∷ []) (contents old.writer) (contents new.writer)) was.format (c.send_step.ensures.sent h)));
      format = c.send_step.ensures.format ∙ was.format;
    }

pub returns : goal.returns
returns g c =
    subst (λ (xs : List Step). HasSentSteps g.W.Write.contents c.args.network.now xs c.args.outlet.now.outlet c.loop-step.outlet.outlet)
    (take_all c.loop-step.step-index c.args.steps.now (omega arith)) c.loop-step.invariant.sent
