use Rattle.std.proofs.Common.{◌≡◌, ◌∙◌, ◌<◌, ◌+◌, ◌∷◌, [], ◌++◌, List, ap, sym, arith, length, take, subst}
use Rattle.std.proofs.lemmas.List.{take_all, take_more}
use Rattle.cm_watched.specs.Pasts.{Past}
use Rattle.cm_watch.specs.Steps.{given, steps_at}
use Rattle.cm_telling.specs.Tried.{Tries}
use Rattle.cm_watch.specs.Watches.{Watches}
use Rattle.cm_watched.specs.declared.happening.Step.{Step}
use Rattle.cm_watch.specs.declared.watch.Watch.{Watch}
use Rattle.canboot_turns.specs.Steps.{HasMade}
use Rattle.canboot_turns.proofs.Going.{follows_given, given_more}
use Rattle.canboot_turns.proofs.CallsOfSteps.{steps_more}
use Rattle.canboot_turns.proofs.watching.Watcher.make_steps.Goals as goal

pub loop-step-preserved : goal.loop-step-preserved
loop-step-preserved g c =
    let steps : List Step = c.as_slice-step-items.result.now in
    let i = c.loop-step.step-index in
    let now = c.args.now in
    let was = c.loop-step.invariant in
    let within : i < length steps = omega arith in
    let grown : take (i + 1) steps ≡ take i steps ++ c.step-item.result ∷ [] =
    take_more steps i c.step-item.result within ∙ ap (λ (x : Step). take i steps ++ x ∷ []) (sym c.step-item.is) in
    record {
      made =
          subst (λ (xs : List Step). HasMade xs c.args.self.now.operator c.make.new.self.operator) (sym grown)
          (steps_more (take i steps) c.step-item.result c.args.self.now.operator c.loop-step.self.operator c.make.new.self.operator was.made c.in_ok-make.ensures.made);
      tries = λ past t.
          subst (λ (p : Past). Tries c.make.new.self.course.progress.tried p) (sym (ap (λ (xs : List Step). given now xs past) grown ∙ given_more now (take i steps) c.step-item.result past))
          (c.make.ensures.tries now (given now (take i steps) past) (was.tries past t));
      waiting = c.make.ensures.waiting ∙ was.waiting;
      watch = c.make.ensures.watch ∙ was.watch;
      pace = c.make.ensures.pace ∙ was.pace;
      heard = c.make.ensures.heard ∙ was.heard;
      network = c.make.ensures.network ∙ was.network;
    }

pub returns-clause-made : goal.returns-clause-made
returns-clause-made g c = λ s past f.
    let all : take c.loop-step.step-index c.as_slice-step-items.result.now ≡ c.in_ok-steps.steps.items =
    take_all c.loop-step.step-index c.as_slice-step-items.result.now (omega arith) ∙ c.as_slice-step-items.ensures.value in
    subst (λ (xs : List Step). HasMade xs c.args.self.now.operator c.loop-step.self.operator) (all ∙ c.in_ok-steps.ensures.steps s past f.watches) c.loop-step.invariant.made

pub returns-clause-given : goal.returns-clause-given
returns-clause-given g c = λ s past f.
    let net = c.args.self.now.course.network.now in
    let now = c.args.now in
    let steps : List Step = steps_at net s past now in
    let was = c.loop-step.invariant in
    let are : c.in_ok-steps.steps.items ≡ steps = c.in_ok-steps.ensures.steps s past f.watches in
    let all : take c.loop-step.step-index c.as_slice-step-items.result.now ≡ c.in_ok-steps.steps.items =
    take_all c.loop-step.step-index c.as_slice-step-items.result.now (omega arith) ∙ c.as_slice-step-items.ensures.value in
    let turned : Watches c.turn.new.self net s (given now c.in_ok-steps.steps.items past) = c.in_ok-steps.ensures.given s past f.watches in
    follows_given c.args.self.now.course.progress c.loop-step.self.course.progress net s past now steps was.waiting f
    (subst (λ (v : Watch). Watches v net s (given now steps past)) (sym was.watch) (subst (λ (xs : List Step). Watches c.turn.new.self net s (given now xs past)) are turned))
    (subst (λ (xs : List Step). Tries c.loop-step.self.course.progress.tried (given now xs past)) (all ∙ are) (was.tries past f.tries))

pub returns-in_err-make-clause-network : goal.returns-in_err-make-clause-network
returns-in_err-make-clause-network g c = c.make.ensures.network ∙ c.loop-step.invariant.network

pub returns-clause-network : goal.returns-clause-network
returns-clause-network g c = c.loop-step.invariant.network

pub returns-in_err-make-clause-pace : goal.returns-in_err-make-clause-pace
returns-in_err-make-clause-pace g c = c.make.ensures.pace ∙ c.loop-step.invariant.pace

pub returns-clause-pace : goal.returns-clause-pace
returns-clause-pace g c = c.loop-step.invariant.pace

pub returns-in_err-make-clause-heard : goal.returns-in_err-make-clause-heard
returns-in_err-make-clause-heard g c = c.make.ensures.heard ∙ c.loop-step.invariant.heard

pub returns-clause-heard : goal.returns-clause-heard
returns-clause-heard g c = c.loop-step.invariant.heard
