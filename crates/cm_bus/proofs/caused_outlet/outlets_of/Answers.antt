use Rattle.std.proofs.Common.{arith, ℕ, Some, ◌++◌, ◌∷◌, [], ◌∙◌, length-append, subst, sym, ap, append_assoc}
use Rattle.std.specs.Prelude.{Option}
use Rattle.std.specs.Vec.Iter.{into_iter_items}
use Rattle.cm_bus.specs.Sent.{AreWrittenFrom, HasWritten}
use Rattle.cm_bus.proofs.Sending.{written_behind}
use Rattle.cm_bus.proofs.caused_outlet.outlets_of.Goals as goal

pub loop-outlet-preserved : goal.loop-outlet-preserved
loop-outlet-preserved g c =
    let was = c.loop-outlet.invariant in
    let more = c.loop-outlet.yielded in
    let own = c.is_of.ensures c.if-not-is_of.false ∙ ap Some (omega (arith, c.len.ensures, c.loop-outlet.plain.ok.0)) in
    record {
      can = tt;
      ends = tt;
      left = append_assoc more (c.in-Some.outlet ∷ []) (into_iter_items c.next.new.self) ∙ (ap (λ w. more ++ w) (sym c.in-Some.ensures.steps.0) ∙ was.left);
      count = omega (arith, c.in-Ok.ensures.len, was.count, length-append more (c.in-Some.outlet ∷ []));
      written = subst (λ os. AreWrittenFrom g.F.Caused.causes g.W.Write.contents g.B.BusName.format g.B.BusName.had 0 os) (sym c.in-Ok.ensures.items)
          (written_behind g.F.Caused.causes g.W.Write.contents g.B.BusName.format g.B.BusName.had 0 c.loop-outlet.plain.items c.into_outlet.result was.written
          (subst (λ (w : Option ℕ). HasWritten g.F.Caused.causes g.W.Write.contents g.B.BusName.format (g.B.BusName.had w) c.into_outlet.result) own c.into_outlet.ensures.written));
    }
