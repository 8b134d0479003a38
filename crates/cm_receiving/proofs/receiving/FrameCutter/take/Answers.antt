use Rattle.std.proofs.Common.{ℕ, List, arith, subst, sym}
use Rattle.cm_can.specs.declared.format.Format.{Format}
use Rattle.cm_receiving.specs.Places.{IsErrorIn, IsFrameLine}
use Rattle.cm_receiving.proofs.BootUps.{no_frame_there, no_line, other_frame}
use Rattle.cm_receiving.proofs.Lines.{counted_line, counted_more}
use Rattle.cm_receiving.proofs.receiving.FrameCutter.take.Goals as goal

pub pass-requires-clause-none : goal.pass-requires-clause-none
pass-requires-clause-none g c =
    no_line g.B.BusName.format g.B.BusName.text c.self.inside.boot_ups c.args.byte c.args.self.now c.self.inside.lines c.self.invariant.1 c.self.view_is c.requires.next c.self.invariant.2
    c.in_default.ensures.none

pub pass-requires-in_default-read_line-clause-none : goal.pass-requires-in_default-read_line-clause-none
pass-requires-in_default-read_line-clause-none g c =
    let line = c.take.new.self.lines.line.items in
    no_frame_there g.B.BusName.format g.B.BusName.text c.self.inside.boot_ups c.args.byte c.args.self.now c.self.inside.lines c.self.invariant.1 c.self.view_is c.requires.next c.self.invariant.2
    line c.in-Some.place c.in-Some.ensures.place c.in-Some.ensures.only
    (λ f bytes is. c.in_default-read_line.ensures.none f bytes (subst (λ (l : List ℕ). IsFrameLine c.self.inside.format l f) (sym c.line.ensures) (subst (λ (format : Format). IsFrameLine format line f) (sym c.self.invariant.0) is)))

pub hear-requires-clause-only : goal.hear-requires-clause-only
hear-requires-clause-only g c =
    let line = c.take.new.self.lines.line.items in let frame = c.in-Some-read_line.frame in
    other_frame g.B.BusName.format g.B.BusName.text c.self.inside.boot_ups c.args.byte c.args.self.now c.self.inside.lines c.self.invariant.1 c.self.view_is c.requires.next c.self.invariant.2
    line c.in-Some.place c.in-Some.ensures.place c.in-Some.ensures.only frame
    (subst (λ (format : Format). IsFrameLine format line frame) c.self.invariant.0 (subst (λ (l : List ℕ). IsFrameLine c.self.inside.format l frame) c.line.ensures c.in-Some-read_line.ensures.some))

pub new-requires-clause-stands : goal.new-requires-clause-stands
new-requires-clause-stands g c = λ t e. record {
  line = c.take.new.self.lines.line.items;
  at = counted_line g.B.BusName.text c.args.self.now c.args.byte c.in-Some.place c.take.new.self.lines.line.items c.self.inside.lines c.self.view_is c.requires.next c.in-Some.ensures.line c.self.invariant.2 t e;
  frame =
      subst (λ (f : Format). IsFrameLine f c.take.new.self.lines.line.items c.in-Some-read_line.frame) c.self.invariant.0
      (subst (λ (l : List ℕ). IsFrameLine c.self.inside.format l c.in-Some-read_line.frame) c.line.ensures c.in-Some-read_line.ensures.some);
}

pub new-requires-clause-same : goal.new-requires-clause-same
new-requires-clause-same g c = λ n is t e place behind within has.
    c.since-since.ensures n is place behind (omega (arith, within, c.hear.ensures, c.in-Some.ensures.place, c.self.invariant.1)) t e has

pub invariant_of-self : goal.invariant_of-self
invariant_of-self g c = (
  c.self.invariant.0,
  omega (arith, c.pass.ensures, c.take.ensures.taken, c.self.invariant.1),
  counted_more g.B.BusName.text c.args.self.now c.args.byte c.self.inside.lines c.take.new.self c.self.view_is c.requires.next c.take.ensures.counting c.self.invariant.2,
)

pub invariant_of-self-in_err-error : goal.invariant_of-self-in_err-error
invariant_of-self-in_err-error g c = (
  c.self.invariant.0,
  omega (arith, c.pass-in_default-read_line.ensures, c.take.ensures.taken, c.self.invariant.1),
  counted_more g.B.BusName.text c.args.self.now c.args.byte c.self.inside.lines c.take.new.self c.self.view_is c.requires.next c.take.ensures.counting c.self.invariant.2,
)

pub invariant_of-self-in_default-read_line : goal.invariant_of-self-in_default-read_line
invariant_of-self-in_default-read_line g c = (
  c.self.invariant.0,
  omega (arith, c.pass-in_default-read_line.ensures, c.take.ensures.taken, c.self.invariant.1),
  counted_more g.B.BusName.text c.args.self.now c.args.byte c.self.inside.lines c.take.new.self c.self.view_is c.requires.next c.take.ensures.counting c.self.invariant.2,
)

pub invariant_of-self-2 : goal.invariant_of-self-2
invariant_of-self-2 g c = (
  c.self.invariant.0,
  omega (arith, c.hear.ensures, c.take.ensures.taken, c.self.invariant.1),
  counted_more g.B.BusName.text c.args.self.now c.args.byte c.self.inside.lines c.take.new.self c.self.view_is c.requires.next c.take.ensures.counting c.self.invariant.2,
)

pub error-requires : goal.error-requires
error-requires g c = record {
  stands = λ t e.
      let line = c.take.new.self.lines.line.items in (
        line,
        counted_line g.B.BusName.text c.args.self.now c.args.byte c.in-Some.place line c.self.inside.lines c.self.view_is c.requires.next c.in-Some.ensures.line c.self.invariant.2 t e,
        subst (λ (f : Format). IsErrorIn f line c.in_ok-error.error) c.self.invariant.0 (subst (λ (l : List ℕ). IsErrorIn c.self.inside.format l c.in_ok-error.error) c.line-in_default-read_line.ensures c.in_ok-error.ensures.some),
      );
}
