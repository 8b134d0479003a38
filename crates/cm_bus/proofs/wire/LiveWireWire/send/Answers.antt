use Rattle.std.proofs.Common.{◌≡◌, ◌∙◌, List, false, ap, sym, subst}
use Rattle.cm_nmt.specs.declared.frame.Frame.{Frame}
use Rattle.cm_can.specs.declared.format.Format.{Format}
use Rattle.cm_bus.specs.Outlets.{LiveWireView, WritesMessage, WritesMessageFront, WritesMessages}
use Rattle.cm_bus.proofs.Messages.{message_more, was_well}
use Rattle.cm_bus.proofs.wire.LiveWireWire.send.Goals as goal

pub invariant_of-self : goal.invariant_of-self
invariant_of-self g c = (
  c.send.ensures.format ∙ c.self.invariant.0,
  λ h.
      let o = c.self.inside.outlet in let contents = g.W.Write.contents c.send.new.self.writer in
      let line = subst (λ (f : Format). WritesMessage f c.args.frame (g.W.Write.contents o.writer) contents) c.self.invariant.0
      (c.message_of.result, c.message_of.ensures, c.send.ensures.written h) in
      subst (λ (s : List Frame). WritesMessages g.B.BusName.message_format s g.B.BusName.before contents) (sym c.send-2.ensures.sent)
      (message_more g.B.BusName.message_format c.self.inside.kept.sent c.args.frame g.B.BusName.before (g.W.Write.contents o.writer) contents
      (c.self.invariant.1 (was_well o c.send.new.self c.send.ensures.stopped h)) line),
)

pub returns-clause-written : goal.returns-clause-written
returns-clause-written g c = λ h. subst (λ (v : LiveWireView). WritesMessage g.B.BusName.message_format c.args.frame v.contents (g.W.Write.contents c.send.new.self.writer))
    c.self.view_is
    (subst (λ (f : Format). WritesMessage f c.args.frame (g.W.Write.contents c.self.inside.outlet.writer) (g.W.Write.contents c.send.new.self.writer)) c.self.invariant.0
    (c.message_of.result, c.message_of.ensures, c.send.ensures.written h))

pub returns-clause-front : goal.returns-clause-front
returns-clause-front g c = λ h.
    let contents = g.W.Write.contents c.send.new.self.writer in
    let well : c.self.inside.outlet.failed ≡ false = ap (λ (v : LiveWireView). v.failed) c.self.view_is ∙ h in
    subst (λ (v : LiveWireView). WritesMessageFront g.B.BusName.message_format c.args.frame v.contents contents) c.self.view_is
    (subst (λ (f : Format). WritesMessageFront f c.args.frame (g.W.Write.contents c.self.inside.outlet.writer) contents) c.self.invariant.0
    (c.message_of.result, c.message_of.ensures, c.send.ensures.front well))
