use Rattle.std.proofs.Common.{[], ◌∷◌, refl, inl, inr, sym, append-nil}
use Rattle.cm_bus.specs.declared.event.PortEvent.TheVariants.{Sent}
use Rattle.cm_bus.proofs.bus.send_request.Goals as goal

pub returns-in-Some-clause-asking : goal.returns-in-Some-clause-asking
returns-in-Some-clause-asking g c = record {
  events = Sent c.in-Some.request.frame ∷ [];
  is = (inr (c.in-Some.request.frame, c.in-Some.ensures.some, refl), c.send.ensures.sent);
  grown = c.send.ensures.log;
}

pub returns-in-None-clause-asking : goal.returns-in-None-clause-asking
returns-in-None-clause-asking g c = record {
  events = [];
  is = (inl (c.in-None.ensures.none, refl), g.met.P.Port.sends_none c.args.port.now);
  grown = sym (append-nil c.args.log.now.items);
}
