use Rattle.std.proofs.Common.{◌≡◌, arith, true, false, refl, rules, sym, ap, ℕ, Bool, ◌∙◌, ◌++◌, ◌∷◌, []}
use Rattle.std.proofs.lemmas.Grind.{common_steps}
use Rattle.cm_watch.specs.Watches.{is_given_by, step_by}
use Rattle.cm_watched.specs.declared.happening.Step.{Step}
use Rattle.cm_watch.proofs.Lists.{chosen, passed, all_given}
use Rattle.cm_watch.proofs.watch.Watch.add_steps.Goals as goal
use Rattle.cm_watch.proofs.watch.Watch.add_steps.Goals.{in-Some+then-is_given+in_ok-push, in-Some+else-is_given, in_default}

pub loop-number-preserved : goal.loop-number-preserved
loop-number-preserved c =
    let p : ℕ → Bool = is_given_by c.args.self.now c.args.network.now c.args.now c.args.kind in
    let f : ℕ → Step = step_by c.args.self.now c.args.kind in
    elim c.match-new.branch [
      | in-Some+then-is_given+in_ok-push w ↦
          let same : w.in-Some.id ≡ c.loop-number.number = search rules in
          let same_back = sym same in
          let yes : p c.loop-number.number ≡ true = rw (same_back) (cc) in
          chosen f p c.loop-number.number _ c.loop-number.steps.items _ (omega arith) c.loop-number.invariant yes
          (rw w.steps-is (w.in_ok-push.ensures.items ∙ ap (λ (s : Step). c.loop-number.steps.items ++ s ∷ []) (w.step.ensures ∙ ap f same)))
      | in-Some+else-is_given w ↦
          let same : w.in-Some.id ≡ c.loop-number.number = search rules in
          let same_back = sym same in
          let no : p c.loop-number.number ≡ false = rw (same_back) (cc) in
          passed f p c.loop-number.number _ c.loop-number.steps.items _ (omega arith) c.loop-number.invariant no (rw w.steps-is refl)
      | in_default w ↦ absurd (grind (arith, common_steps))
    ]

pub returns : goal.returns
returns c = all_given (step_by c.args.self.now c.args.kind) (is_given_by c.args.self.now c.args.network.now c.args.now c.args.kind) c.loop-number.number _ _ (omega arith) c.loop-number.invariant
