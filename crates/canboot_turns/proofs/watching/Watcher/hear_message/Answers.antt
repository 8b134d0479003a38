use Rattle.std.proofs.Common.{ℕ, ◌++◌, arith, refl, subst}
use Rattle.cm_watched.specs.Guarding.{heard_at}
use Rattle.canboot_turns.specs.Causes.{stand_of}
use Rattle.canboot_turns.specs.Going.{Follows}
use Rattle.canboot_turns.proofs.Going.{heard_on, passed_over}
use Rattle.canboot_turns.proofs.watching.Watcher.hear_message.Goals as goal

pub returns-then-is_repeated-clause-goes_on : goal.returns-then-is_repeated-clause-goes_on
returns-then-is_repeated-clause-goes_on g c = passed_over g.B.BusName.format g.B.BusName.text g.B.BusName.typed (stand_of c.args.self.now) _ refl refl refl (omega (arith, c.if-place-self.false))

pub returns-clause-goes_on : goal.returns-clause-goes_on
returns-clause-goes_on g c =
    let net = c.args.self.now.course.network.now in
    let now = c.args.now in
    let message = c.args.message in
    heard_on g.B.BusName.format g.B.BusName.text g.B.BusName.typed (stand_of c.args.self.now) _ now message.place message.node message.byte refl refl (omega (arith, c.if-place-self.false, c.place-place.ensures.place)) c.place-place.ensures.place c.place-place.ensures.stands
    (λ s past f.
    subst (λ (i : ℕ). Follows c.hear.new.self net s (heard_at net past now i message.byte ++ past)) c.node-2.ensures
    (subst (λ (b : ℕ). Follows c.hear.new.self net s (heard_at net past now c.node-2.result b ++ past)) c.byte-2.ensures (c.hear.ensures s past f)))
