use Rattle.std.proofs.Common.{◌≡◌, ◌∙◌, ◌++◌, Option, Some, ap, sym, subst}
use Rattle.std.specs.Prelude.{IfOk}
use Rattle.cm_crew.specs.CallsMade.{calls_made}
use Rattle.cm_operator.specs.Console.{asked_by}
use Rattle.cm_operator.specs.declared.console.Command.{Command}
use Rattle.canboot_turns.specs.Asking.{asked_of, calls_asked}
use Rattle.canboot_turns.specs.Going.{Follows, HasQuit}
use Rattle.canboot_turns.proofs.watching.Watcher.obey.Goals as goal

pub returns-in-Ok-clause-told : goal.returns-in-Ok-clause-told
returns-in-Ok-clause-told g c = λ s past f.
    let net = c.args.self.now.course.network.now in
    let asked : asked_by c.args.line.now.line ≡ Some c.in-Ok.command = ap asked_by (sym c.line.ensures.line) ∙ c.in-Ok.ensures.taken in
    subst (λ (o : Option Command). IfOk c.carry_out.result (λ _. Follows c.carry_out.new.self.course.progress net s (asked_of o net past c.args.now ++ past))) (sym asked)
    (c.carry_out.ensures.told s past f)

pub returns-in-Ok-clause-made : goal.returns-in-Ok-clause-made
returns-in-Ok-clause-made g c = λ s past f.
    let began = c.args.self.now in
    let asked : asked_by c.args.line.now.line ≡ Some c.in-Ok.command = ap asked_by (sym c.line.ensures.line) ∙ c.in-Ok.ensures.taken in
    subst (λ (o : Option Command). IfOk c.carry_out.result (λ _. calls_made c.carry_out.new.self.operator ≡ calls_made began.operator ++ calls_asked o began.course.network.now past)) (sym asked)
    (c.carry_out.ensures.made s past f)

pub returns-in-Ok-clause-quits : goal.returns-in-Ok-clause-quits
returns-in-Ok-clause-quits g c = λ e.
    let began = c.args.self.now in
    let left = c.carry_out.new.self in
    let asked : asked_by c.args.line.now.line ≡ Some c.in-Ok.command = ap asked_by (sym c.line.ensures.line) ∙ c.in-Ok.ensures.taken in
    subst (λ (o : Option Command). HasQuit o c.args.now began.course.network.now began.course.progress began.operator left.course.progress left.operator) (sym asked) (c.carry_out.ensures.quits e)
