use Rattle.std.proofs.Common.{◌≡◌, ℕ, Some, ◌++◌, ◌∷◌, [], ◌∙◌, length, arith, sym, ap, append_assoc, length-append}
use Rattle.std.specs.Vec.Iter.{into_iter_items}
use Rattle.cm_bus.proofs.Sending.{had_next}
use Rattle.canboot_scan.proofs.asking.make_askers.Goals as goal

pub make_bus-requires-clause-had : goal.make_bus-requires-clause-had
make_bus-requires-clause-had g c =
    let was = c.loop-writer.invariant in
    let more = c.loop-writer.yielded in
    let writer = c.in-Some.writer in
    let all : more ++ writer ∷ into_iter_items c.next.new.self ≡ c.args.written.items =
    ap (λ w. more ++ w) (sym c.in-Some.ensures.steps.0) ∙ was.left in
    let place : c.len-place.result ≡ length more = c.len-place.ensures ∙ was.askers in
    had_next g.W.Write.contents g.B.BusName.had c.args.written.items more (into_iter_items c.next.new.self) writer c.requires.had all
    ∙ ap (λ (k : ℕ). g.B.BusName.had (Some k)) (sym place)

pub loop-writer-preserved : goal.loop-writer-preserved
loop-writer-preserved g c =
    let was = c.loop-writer.invariant in
    let more = c.loop-writer.yielded in
    let writer = c.in-Some.writer in
    let number = length-append more (writer ∷ []) in
    record {
      can = tt;
      ends = tt;
      left = append_assoc more (writer ∷ []) (into_iter_items c.next.new.self) ∙ (ap (λ w. more ++ w) (sym c.in-Some.ensures.steps.0) ∙ was.left);
      askers = omega (arith, c.in_ok-push.ensures.len, was.askers, number);
    }
