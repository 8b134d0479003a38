use Rattle.std.proofs.Common.{◌∙◌, [], refl, sym, subst, arith}
use Rattle.std.specs.Prelude.{Option}
use Rattle.cm_bus.specs.Receiving.{IsGiven}
use Rattle.cm_bus.specs.Talk.{answer_in}
use Rattle.cm_bus.specs.declared.bus.Reply.{Reply}
use Rattle.cm_bus.proofs.Giving.{given_frame, given_silent}
use Rattle.cm_bus.proofs.Waiting.{passed_answered, passed_more, passed_over}
use Rattle.cm_bus.proofs.bus.wait_for.Goals as goal

pub returns-in-Some-answered_by-clause-waited : goal.returns-in-Some-answered_by-clause-waited
returns-in-Some-answered_by-clause-waited g c =
    passed_answered c.args.id c.args.question.now c.loop-passed.passed c.args.log.now.items c.loop-passed.log.items c.push_reserved.new.self.items
    (record { frame = c.frame-frame.result; answer = c.in-Some-answered_by.answer }) c.loop-passed.invariant.0 (omega (arith, c.loop-passed.auto.passed-end, c.loop-passed-test.true)) c.push_reserved.ensures.items
    ((c.answered_by.ensures c.in-Some-answered_by.answer).0 c.in-Some-answered_by.is)

pub returns-in-Some-answered_by-clause-given : goal.returns-in-Some-answered_by-clause-given
returns-in-Some-answered_by-clause-given g c =
    given_frame g.B.BusName.format g.B.BusName.text c.args.id c.args.question.now c.in-Some-answered_by.answer c.args.begun c.args.last.now c.loop-passed.last c.place-place.result
    c.in-Some.received c.frame-frame.result c.loop-passed.invariant.2 (omega (arith, c.if-place-last.false, c.place-place.ensures), c.place-place.ensures) c.frame-frame.ensures.frame c.frame-frame.ensures.stands ((c.answered_by.ensures c.in-Some-answered_by.answer).0 c.in-Some-answered_by.is)
    (omega (arith, c.if-since-begun.false, c.since.ensures.since)) c.since.ensures.same

pub returns-clause-given : goal.returns-clause-given
returns-clause-given g c =
    subst (λ (r : Option Reply). IsGiven g.B.BusName.format g.B.BusName.text c.args.id c.args.question.now (answer_in r) c.args.begun c.args.last.now c.loop-passed.last) (sym c.expire-2.ensures.none)
    (given_silent g.B.BusName.format g.B.BusName.text c.args.id c.args.question.now c.args.begun c.args.last.now c.loop-passed.last c.loop-passed.last c.loop-passed.invariant.2 refl)

pub loop-passed-preserved : goal.loop-passed-preserved
loop-passed-preserved g c = (
  passed_more c.args.id c.args.question.now c.loop-passed.passed c.args.log.now.items c.loop-passed.log.items c.push_reserved.new.self.items c.frame-frame.result c.loop-passed.invariant.0 c.push_reserved.ensures.items
      (λ a h. let e = (c.answered_by.ensures a).1 h in let d = c.in_default-answered_by.is in cc),
  c.push_reserved.ensures.capacity ∙ c.loop-passed.invariant.1,
  omega (arith, c.loop-passed.invariant.2),
  g.met.P.Port.sends_more c.args.port.now c.loop-passed.port c.hear.new.self [] [] c.loop-passed.invariant.3 c.hear.ensures,
)

pub returns-in_default-clause-given : goal.returns-in_default-clause-given
returns-in_default-clause-given g c =
    subst (λ (r : Option Reply). IsGiven g.B.BusName.format g.B.BusName.text c.args.id c.args.question.now (answer_in r) c.args.begun c.args.last.now c.loop-passed.last) (sym c.expire.ensures.none)
    (given_silent g.B.BusName.format g.B.BusName.text c.args.id c.args.question.now c.args.begun c.args.last.now c.loop-passed.last c.loop-passed.last c.loop-passed.invariant.2 refl)

pub loop-passed-preserved-then-place-last : goal.loop-passed-preserved-then-place-last
loop-passed-preserved-then-place-last g c = (
  passed_over c.args.id c.args.question.now c.loop-passed.passed c.args.log.now.items c.loop-passed.log.items c.loop-passed.invariant.0,
  c.loop-passed.invariant.1,
  c.loop-passed.invariant.2,
  g.met.P.Port.sends_more c.args.port.now c.loop-passed.port c.hear.new.self [] [] c.loop-passed.invariant.3 c.hear.ensures,
)
