use Rattle.std.proofs.Common.{◌≡◌, List, ◌++◌, ◌∷◌, [], length, ap, sym, subst, ◌∙◌, arith, length-append, vec_capacity}
use Rattle.cm_register.specs.Knowing.{IsKnowing, IsNextCall, seat_view}
use Rattle.cm_register.specs.Reads.{IsToldOf}
use Rattle.cm_register.specs.SeatCalls.{made}
use Rattle.cm_register.specs.SeatViews.{SeatView}
use Rattle.cm_register.specs.declared.made.Made.{Made}
use Rattle.cm_register.proofs.Knowing.{knowing_call, told_call}
use Rattle.cm_register.proofs.seat.Seat.count_call.Goals.{After-drop-self-inside}
use Rattle.cm_register.proofs.seat.Seat.count_call.Given as given
use Rattle.cm_register.proofs.seat.Seat.count_call.Goals as goal

module _ (g : given.Over) (c : After-drop-self-inside g) where
  abbrev one : Made
  one = made c.args.position c.args.entry.now.call c.args.entry.now.reply

  abbrev view : SeatView
  view = seat_view c.self.inside.number c.self.inside.list.items (vec_capacity c.self.inside.list) c.self.inside.share.amount c.self.inside.known c.self.inside.viewed c.self.inside.called

  list_longer : c.push_reserved.new.self.items ≡ c.self.inside.list.items ++ one ∷ []
  list_longer = c.push_reserved.ensures.items ∙ ap (λ (w : List Made). w ++ one ∷ []) c.take_room.ensures.items

  next : IsNextCall view c.args.entry.now c.args.history.now
  next = subst (λ (s : SeatView). IsNextCall s c.args.entry.now c.args.history.now) (sym c.self.view_is) c.requires.next

pub invariant_of-self : goal.invariant_of-self
invariant_of-self g c =
    let s = c.self.inside in
    let i = c.self.invariant in
    let h = c.longer.result in
    let knowing = knowing_call s.number s.list.items s.known s.viewed s.called i.5 h c.longer.ensures.this (vec_capacity s.list) s.share.amount c.args.entry.now c.args.history.now (next g c) c.longer.ensures.that c.args.position c.requires.place in (
      i.0,
      i.1,
      i.2,
      c.add.ensures.parts ∙ i.3,
      omega (arith, c.add.ensures.amount, i.4, ap length (list_longer g c), length-append s.list.items (one g c ∷ [])),
      subst (λ (w : List Made). IsKnowing s.number w h s.viewed s.called) (sym (list_longer g c)) knowing,
    )

pub returns-clause-told : goal.returns-clause-told
returns-clause-told g c receipt place replied =
    let s = c.self.inside in
    let i = c.self.invariant in
    let h = c.longer.result in
    let more = c.add.new.share.amount in
    let room = vec_capacity c.push_reserved.new.self in
    let call = c.args.entry.now.call in
    let told = told_call s.number s.list.items s.known s.viewed s.called i.5 h c.longer.ensures.this (vec_capacity s.list) s.share.amount c.args.entry.now c.args.history.now (next g c) c.longer.ensures.that c.args.position c.requires.place more room receipt place replied in
    subst (λ (t : SeatView). IsToldOf t (seat_view s.number c.push_reserved.new.self.items room more h s.viewed s.called) call receipt) c.self.view_is
    (subst (λ (w : List Made). IsToldOf (view g c) (seat_view s.number w room more h s.viewed s.called) call receipt) (sym (list_longer g c)) told)
