use Rattle.std.proofs.Common.{◌∙◌, ◌++◌, [], List, ap, arith, refl, subst, true}
use Rattle.cm_bus.specs.Receiving.{BusView, IsAskedOver}
use Rattle.cm_bus.specs.Sent.{sent_in}
use Rattle.cm_bus.specs.declared.event.PortEvent.{PortEvent}
use Rattle.cm_bus.proofs.Giving.{put}
use Rattle.cm_bus.proofs.bus.LiveBusBus.ask.Goals as goal

pub returns : goal.returns
returns g c =
    let x = c.ask_by.result in
    let a = c.ask_by.ensures.asked in
    let old : BusView _ = record { log = c.self.inside.log.items; heard = c.self.inside.last; begun = c.self.inside.begun; goes_on = c.self.inside.goes_on; port = c.self.inside.port } in
    let new : BusView _ = record { log = c.ask_by.new.log.items; heard = c.ask_by.new.last; begun = c.begun_at-self-inside.result; goes_on = true; port = c.ask_by.new.port } in
    subst (λ (v : BusView _). IsAskedOver g.P.Port.sends g.B.BusName.format g.B.BusName.text c.args.id c.args.question x v new)
    c.self.view_is (record {
      asked = record {
        talk = a.events;
        is = a.is.0;
        grown = λ h. a.grown ∙ ap (λ (l : List PortEvent). l ++ a.events) (c.make_room.ensures.kept (omega (arith, h, c.self.ranges)));
        anew = λ h. a.grown ∙ ap (λ (l : List PortEvent). l ++ a.events) (c.make_room.ensures.anew (omega (arith, h, c.self.ranges)));
      };
      sent = g.met.P.Port.sends_more c.self.inside.port c.listen.new.self c.ask_by.new.port [] (sent_in a.events) c.listen.ensures a.is.1;
      put = put g.B.BusName.format g.B.BusName.text c.args.id c.args.question x old new c.received-read.result.bytes c.raise.new.last c.raise.ensures c.begun_at-self-inside.ensures refl c.ask_by.ensures.given;
    })
