use Rattle.std.proofs.Common.{◌≡◌, ◌∙◌, ◌<◌, ◌+◌, ◌∷◌, [], ◌++◌, List, ap, sym, arith, length, take, subst}
use Rattle.std.proofs.lemmas.List.{take_more, take_all}
use Rattle.cm_watched.specs.Pasts.{Past}
use Rattle.cm_watch.specs.Steps.{given}
use Rattle.cm_watch.specs.Watches.{Watches}
use Rattle.cm_watched.specs.declared.happening.Moment.TheVariants as moment
use Rattle.cm_watched.specs.declared.happening.Step.{Step}
use Rattle.cm_watch.proofs.Steps.{given_more}
use Rattle.cm_watch.proofs.watch.Watch.give.Goals as goal

pub loop-step-preserved : goal.loop-step-preserved
loop-step-preserved c = λ s past w.
    let net = c.args.network.now in
    let steps : List Step = c.args.steps.now in
    let i = c.loop-step.step-index in
    let within : i < length steps = omega arith in
    let noted = c.note.ensures s (given c.args.now_ms (take i steps) past) (c.loop-step.invariant s past w) in
    let grown : take (i + 1) steps ≡ take i steps ++ c.step-item.result ∷ [] =
    take_more steps i c.step-item.result within ∙ ap (λ (x : Step). take i steps ++ x ∷ []) (sym c.step-item.is) in
    let path : (c.args.now_ms, moment.Gave c.step-item.result) ∷ given c.args.now_ms (take i steps) past ≡ given c.args.now_ms (take (i + 1) steps) past =
    sym (ap (λ (xs : List Step). given c.args.now_ms xs past) grown ∙ given_more c.args.now_ms (take i steps) c.step-item.result past) in
    subst (λ (ps : Past). Watches c.note.new.self net s ps) path noted

pub returns : goal.returns
returns c = λ s past w.
    let last : take c.loop-step.step-index c.args.steps.now ≡ c.args.steps.now = take_all c.loop-step.step-index c.args.steps.now (omega arith) in
    subst (λ (xs : List Step). Watches c.loop-step.self c.args.network.now s (given c.args.now_ms xs past)) last (c.loop-step.invariant s past w)
