use Rattle.std.proofs.Common.{◌≡◌, ◌∙◌, ◌&&◌, Bool, not, Some, None, is_none, ap, arith, sym}
use Rattle.std.specs.Bool.{if◌then◌else◌}
use Rattle.cm_watch.specs.Telling.{given_up_of, is_given_up_at}
use Rattle.cm_watch.specs.Watches.{is_given_up_by}
use Rattle.cm_watched.specs.declared.happening.Happening.{Happening}
use Rattle.cm_watched.specs.declared.slave.Slave.{Slave}
use Rattle.cm_watch.proofs.watch.Watch.given_up.Goals as goal

pub returns-then-is_given_up : goal.returns-then-is_given_up
returns-then-is_given_up c = λ net s past w.
    let i = c.in-Ended.id in
    let same : is_given_up_by c.args.self.now i ≡ is_given_up_at net s past i = ap (λ (k : Slave). is_none k.booted && (not k.is_held && is_none k.schedule.due)) (w.slaves i (omega arith) (omega arith)) in
    sym (ap (λ (h : Happening). given_up_of net s past h) c.in-Ended.is
    ∙ ap (λ (b : Bool). if b then Some i else None) (sym same ∙ sym c.is_given_up.ensures ∙ c.if-is_given_up.true))

pub returns-else-is_given_up : goal.returns-else-is_given_up
returns-else-is_given_up c = λ net s past w.
    let i = c.in-Ended.id in
    let same : is_given_up_by c.args.self.now i ≡ is_given_up_at net s past i = ap (λ (k : Slave). is_none k.booted && (not k.is_held && is_none k.schedule.due)) (w.slaves i (omega arith) (omega arith)) in
    sym (ap (λ (h : Happening). given_up_of net s past h) c.in-Ended.is
    ∙ ap (λ (b : Bool). if b then Some i else None) (sym same ∙ sym c.is_given_up.ensures ∙ c.if-is_given_up.false))
