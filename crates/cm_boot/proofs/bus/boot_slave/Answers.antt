use Rattle.std.proofs.Common.{◌≡◌, ◌∙◌, ◌≤◌, ◌+◌, Some, length, refl, ap, arith}
use Rattle.cm_boot.specs.Progress.{question_due}
use Rattle.cm_boot.specs.Talk.{asked}
use Rattle.cm_boot.proofs.Due.{asked_next, lawful_next}
use Rattle.cm_boot.proofs.Talked.{none_at_first, turn, turns_over}
use Rattle.cm_boot.proofs.bus.boot_slave.Goals as goal

pub loop-turn-init : goal.loop-turn-init
loop-turn-init g c =
    let none = ap (asked c.new-boot.result.entry) c.new-boot.ensures.answers ∙ none_at_first c.new-boot.result.entry in
    (c.new-boot.ensures.entry, ap length none, rw none refl)

pub returns-in_default-clause-lawful : goal.returns-in_default-clause-lawful
returns-in_default-clause-lawful g c =
    rw (← c.loop-turn.invariant.0, c.answers.ensures.value) (lawful_next c.loop-turn.boot c.in_default.field-0 (c.next.ensures.next ∙ ap Some c.in_default.is))

pub returns-in_default-clause-talk : goal.returns-in_default-clause-talk
returns-in_default-clause-talk g c = rw (← c.loop-turn.invariant.0, c.answers.ensures.value) c.loop-turn.invariant.2

pub loop-turn-preserved : goal.loop-turn-preserved
loop-turn-preserved g c =
    let due : question_due c.loop-turn.boot ≡ Some c.in-Ask.question = asked_next c.loop-turn.boot c.in-Ask.question (c.next.ensures.next ∙ ap Some c.in-Ask.is) in
    let t = turn (λ b q x d. g.B.Bus.step b c.args.id q x d) c.args.bus.now c.loop-turn.bus c.ask-answer.new.self c.loop-turn.boot c.in-Ask.question c.ask-answer.result c.take.new.boot.answers c.next.ensures.kept due (c.take.ensures.taken c.in-Ask.question due) c.loop-turn.invariant.2 c.ask-answer.ensures in
    (c.take.ensures.entry ∙ c.loop-turn.invariant.0, rw c.take.ensures.entry (t.more ∙ ap (λ n. n + 1) c.loop-turn.invariant.1), rw c.take.ensures.entry t.talk)

pub returns-clause-lawful : goal.returns-clause-lawful
returns-clause-lawful g c =
    let enough : 41 ≤ length (asked c.loop-turn.boot.entry c.loop-turn.boot.answers) = omega (arith, c.loop-turn.invariant.1) in
    rw (← c.loop-turn.invariant.0, c.answers-2.ensures.value) (turns_over c.loop-turn.boot c.answers-2.ensures.kept enough)

pub returns-clause-talk : goal.returns-clause-talk
returns-clause-talk g c = rw (← c.loop-turn.invariant.0, c.answers-2.ensures.value) c.loop-turn.invariant.2
