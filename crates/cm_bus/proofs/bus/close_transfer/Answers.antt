use Rattle.std.proofs.Common.{[], ◌∷◌, refl, inl, inr, subst, sym, append-nil, ℕ}
use Rattle.std.specs.Prelude.{Option}
use Rattle.cm_can.specs.declared.frame.CanFrame.{CanFrame}
use Rattle.cm_bus.specs.Talk.{IsAbort, IsAbortCode}
use Rattle.cm_bus.specs.declared.event.PortEvent.TheVariants.{Sent}
use Rattle.cm_bus.proofs.bus.close_transfer.Goals as goal

pub returns-in-Some-clause-closing : goal.returns-in-Some-clause-closing
returns-in-Some-clause-closing g c =
    record {
      events = Sent c.in-Some.abort.frame ∷ [];
      is = (inr (c.in-Some.abort.frame, subst (λ (last : Option CanFrame). IsAbort c.args.id c.args.question.now last c.in-Some.abort.frame) c.frame_in.ensures c.in-Some.ensures.some, refl), c.send.ensures.sent);
      grown = c.send.ensures.log;
    }

pub returns-in-None-clause-closing : goal.returns-in-None-clause-closing
returns-in-None-clause-closing g c =
    record {
      events = [];
      is = (inl (subst (λ (last : Option CanFrame). (code : ℕ) → IsAbortCode c.args.id c.args.question.now last code → ⊥) c.frame_in.ensures c.in-None.ensures.none, refl), g.met.P.Port.sends_none c.args.port.now);
      grown = sym (append-nil c.args.log.now.items);
    }
