use Rattle.std.proofs.Common.{List, ℕ, subst, sym}
use Rattle.cm_receiving.specs.Places.{LineStandsIn}
use Rattle.cm_receiving.proofs.Lines.{counted_line, counted_more}
use Rattle.cm_operator.proofs.typing.TypedCutter.take.Goals as goal

pub invariant_of-self : goal.invariant_of-self
invariant_of-self g c =
    counted_more g.B.BusName.typed c.args.self.now c.args.byte c.self.inside.lines c.take.new.self c.self.view_is c.requires.next c.take.ensures.counting c.self.invariant

pub invariant_of-self-2 : goal.invariant_of-self-2
invariant_of-self-2 g c =
    counted_more g.B.BusName.typed c.args.self.now c.args.byte c.self.inside.lines c.take.new.self c.self.view_is c.requires.next c.take.ensures.counting c.self.invariant

pub new-requires : goal.new-requires
new-requires g c =
    subst (λ (l : List ℕ). LineStandsIn g.B.BusName.typed c.in_ok-place.place l) (sym c.line.ensures)
    (counted_line g.B.BusName.typed c.args.self.now c.args.byte c.in_ok-place.place c.take.new.self.lines.line.items c.self.inside.lines c.self.view_is c.requires.next c.in_ok-place.ensures.line c.self.invariant)
