use Rattle.std.proofs.Common.{◌≡◌, ap, sym, subst, Some, ◌++◌}
use Rattle.std.specs.Prelude.{IfOk}
use Rattle.cm_crew.specs.CallsMade.{calls_made}
use Rattle.cm_history.specs.declared.call.Entry.{Entry}
use Rattle.cm_netlist.specs.Network.{Network}
use Rattle.cm_operator.specs.declared.console.Command.{Command}
use Rattle.cm_operator.specs.declared.console.Command.TheVariants.{Start}
use Rattle.canboot_turns.specs.Asking.{asked_of, calls_asked}
use Rattle.canboot_turns.specs.Going.{Follows}
use Rattle.canboot_turns.specs.declared.progress.Progress.{Progress}
use Rattle.canboot_turns.proofs.Going.{ok_always}
use Rattle.canboot_turns.proofs.watching.Watcher.carry_out.Goals as goal

pub returns-in-Make-clause-told : goal.returns-in-Make-clause-told
returns-in-Make-clause-told g c = λ s past f.
    let net = c.args.self.now.course.network.now in
    ok_always c.make_typed.result
    (subst (λ (p : Progress Entry). Follows p net s (asked_of (Some c.args.command.now) net past c.args.now ++ past)) (sym (ap (λ k. k.progress) c.make_typed.ensures.course)) (c.ask.ensures.told s past f))

pub returns-in-Request-clause-told : goal.returns-in-Request-clause-told
returns-in-Request-clause-told g c = λ s past f.
    let net = c.args.self.now.course.network.now in
    ok_always c.make_typed-in-Request.result
    (subst (λ (p : Progress Entry). Follows p net s (asked_of (Some c.args.command.now) net past c.args.now ++ past)) (sym (ap (λ k. k.progress) c.make_typed-in-Request.ensures.course)) (c.ask.ensures.told s past f))

pub returns-in-Start-clause-told : goal.returns-in-Start-clause-told
returns-in-Start-clause-told g c = λ s past f.
    let net = c.args.self.now.course.network.now in
    ok_always c.start.result
    (subst (λ (p : Progress Entry). Follows p net s (asked_of (Some c.args.command.now) net past c.args.now ++ past)) (sym (ap (λ k. k.progress) c.start.ensures.course)) (c.ask.ensures.told s past f))

pub returns-in-Start-clause-made : goal.returns-in-Start-clause-made
returns-in-Start-clause-made g c = λ s past f.
    let began = c.args.self.now in
    let net = began.course.network.now in
    let asked = c.ask.new.self in
    let same : asked.network.now ≡ net = ap (λ n. n.now) c.ask.ensures.network in
    let follows : Follows asked.progress net s past =
    subst (λ (x : Command). Follows asked.progress net s (asked_of (Some x) net past c.args.now ++ past)) c.in-Start.is (c.ask.ensures.told s past f) in
    subst (λ (x : Command). IfOk c.start.result (λ _. calls_made c.start.new.self.operator ≡ calls_made began.operator ++ calls_asked (Some x) net past)) (sym c.in-Start.is)
    (subst (λ (n : Network). IfOk c.start.result (λ _. calls_made c.start.new.self.operator ≡ calls_made began.operator ++ calls_asked (Some Start) n past)) same
    (c.start.ensures.made s past (subst (λ (n : Network). Follows asked.progress n s past) (sym same) follows)))
