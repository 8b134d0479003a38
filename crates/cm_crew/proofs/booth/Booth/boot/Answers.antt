use Rattle.std.proofs.Common.{◌≡◌, ◌-◌, ◌+◌, ◌∙◌, ℕ, false, List, [], ap, refl, sym, subst, arith}
use Rattle.std.specs.Prelude.{Some, option_map}
use Rattle.cm_netlist.specs.Network.{listed_ids}
use Rattle.cm_netlist.specs.Workers.{worker_of}
use Rattle.cm_register.specs.declared.made.Made.{Made}
use Rattle.cm_crew.specs.Typing.{IsMadeInBoot}
use Rattle.cm_crew.specs.Workers.{AreOfItsSeat, IsOfItsSeat, seat_of}
use Rattle.cm_crew.proofs.Calls.{round_each}
use Rattle.cm_register.proofs.MadeCalls.{none_made}
use Rattle.cm_crew.proofs.ReceivedRounds.{round_received}
use Rattle.cm_crew.proofs.Working.{equal_some}
use Rattle.cm_crew.proofs.booth.Booth.boot.Goals as goal

pub invariant_of-self : goal.invariant_of-self
invariant_of-self g c =
    let net = g.K.HistoryName.net in
    let seats = g.K.RunName.seats in
    let s = c.self.inside in
    let i = c.self.invariant in
    let round = c.live_round.ensures.round in
    let listed : c.as_slice.result.now ≡ listed_ids net = c.as_slice.ensures.value ∙ (c.listed_ids-listed.ensures ∙ ap listed_ids c.network.ensures) in
    let workers : s.workers ≡ seats - 1 = omega (arith, i.4) in
    let own : seat_of net seats c.args.id ≡ Some s.seat.number =
    ap (λ (w : ℕ). option_map (λ k. k + 2) (worker_of (listed_ids net) w c.args.id)) (sym workers)
    ∙ (ap (λ (ids : List ℕ). option_map (λ k. k + 2) (worker_of ids s.workers c.args.id)) (sym listed) ∙ (sym c.seat_of.ensures ∙ (equal_some c.seat_of.result c.from.result (sym c.ne.ensures ∙ c.if-ne.false) ∙ ap Some (c.from.ensures ∙ c.number.ensures.value)))) in (
      round_received g.B.BusName.format g.B.BusName.text net g.P.Port.sends c.args.id c.args.most c.live_round.result s.seat.list c.live_round.new.seat.list (record { log = []; heard = s.bus.heard; begun = s.bus.begun; goes_on = false; port = s.bus.port }) c.live_round.new.bus refl round i.0,
      round_each IsMadeInBoot c.args.id (λ p r. tt) (λ p n a r. tt) _ _ net c.args.most c.live_round.result s.seat.list c.live_round.new.seat.list _ c.live_round.new.bus round i.1,
      subst (λ (n : ℕ). AreOfItsSeat net seats n c.live_round.new.seat.list) (sym c.live_round.ensures.number)
          (round_each (λ (m : Made). IsOfItsSeat net seats s.seat.number m.call) c.args.id (λ p r. tt) (λ p n a r. own) _ _ net c.args.most c.live_round.result s.seat.list c.live_round.new.seat.list _ c.live_round.new.bus round i.2),
      i.3,
      i.4,
    )

pub returns-then-ne-clause-calls : goal.returns-then-ne-clause-calls
returns-then-ne-clause-calls g c = none_made c.args.self.now
