use Rattle.std.proofs.Common.{◌≡◌, ℕ, subst, sym}
use Rattle.std.specs.Prelude.{IfNone, Option, None, Some}
use Rattle.cm_can.specs.Control.{IsErrorControl}
use Rattle.cm_can.specs.declared.frame.CanFrame.{CanFrame}
use Rattle.cm_receiving.specs.Places.{StandsIn}
use Rattle.cm_receiving.proofs.control_message.ControlMessage.of.Goals as goal

-- what holds whatever comes of it
always : {X P : Type 0} (r : Option X) → P → IfNone r P
always None p = p
always (Some x) p = tt

pub returns-in_err-message-clause-none : goal.returns-in_err-message-clause-none
returns-in_err-message-clause-none g c =
    always c.from_residual.result (subst (λ (f : CanFrame). (node byte : ℕ) → IsErrorControl node byte f → ⊥) c.frame.ensures.frame c.in_err-message.ensures.none)

pub invariant_of-result : goal.invariant_of-result
invariant_of-result g c = (
  c.args.received.now.frame,
  subst (λ (f : CanFrame). IsErrorControl c.in_ok-message.message.node c.in_ok-message.message.byte f) c.frame.ensures.frame c.in_ok-message.ensures.some,
  subst (λ (p : ℕ). StandsIn g.B.BusName.format g.B.BusName.text p c.args.received.now.frame) (sym c.place.ensures) c.frame.ensures.stands,
)
