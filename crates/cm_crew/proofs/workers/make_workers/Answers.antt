use Rattle.std.proofs.Common.{◌≡◌, ℕ, Some, ◌<◌, ◌+◌, ◌++◌, ◌∷◌, [], ◌∙◌, length, vec_len, arith, sym, ap, append_assoc, length-append}
use Rattle.std.specs.Vec.Iter.{into_iter_items}
use Rattle.std.proofs.lemmas.Bool.{eqb-true}
use Rattle.std.proofs.Math.Nat.{min-eq_left, min-eq_right}
use Rattle.cm_bus.proofs.Sending.{had_next}
use Rattle.cm_crew.proofs.Fresh.{first_fresh, rest_fresh}
use Rattle.cm_crew.proofs.workers.make_workers.Goals as goal
use Rattle.cm_crew.proofs.workers.make_workers.Goals.{in-None, in-Some+then-is_empty}

pub make_worker-requires-clause-list : goal.make_worker-requires-clause-list
make_worker-requires-clause-list g c =
    let some : 0 < length c.loop-writer.seats.items = omega (arith, c.remove-seat.ensures.len, c.loop-writer.seats.ok.0) in
    first_fresh c.loop-writer.seats.items c.remove-seat.result some c.remove-seat.ensures.value c.loop-writer.invariant.fresh

pub make_worker-requires-clause-had : goal.make_worker-requires-clause-had
make_worker-requires-clause-had g c =
    let was = c.loop-writer.invariant in
    let more = c.loop-writer.yielded in
    let writer = c.in-Some.writer in
    let all : more ++ writer ∷ into_iter_items c.next.new.self ≡ c.args.written.items =
    ap (λ w. more ++ w) (sym c.in-Some.ensures.steps.0) ∙ was.left in
    let place : c.len-place.result ≡ length more = c.len-place.ensures ∙ was.workers in
    had_next g.W.Write.contents g.B.BusName.had c.args.written.items more (into_iter_items c.next.new.self) writer c.requires.had all
    ∙ ap (λ (k : ℕ). g.B.BusName.had (Some k)) (sym place)

pub loop-writer-preserved : goal.loop-writer-preserved
loop-writer-preserved g c =
    let was = c.loop-writer.invariant in
    let more = c.loop-writer.yielded in
    let writer = c.in-Some.writer in
    let number = length-append more (writer ∷ []) in
    record {
      can = tt;
      ends = tt;
      fresh = rest_fresh c.loop-writer.seats.items c.remove-seat.new.self.items c.remove-seat.ensures.items was.fresh;
      left = append_assoc more (writer ∷ []) (into_iter_items c.next.new.self) ∙ (ap (λ w. more ++ w) (sym c.in-Some.ensures.steps.0) ∙ was.left);
      workers = omega (arith, c.in_ok-take.ensures.workers, was.workers, number);
      hears = omega (arith, c.in_ok-take.ensures.channels.0, was.hears, number);
      jobs = omega (arith, c.in_ok-take.ensures.channels.1, was.jobs, number);
      seats = omega (arith, c.remove-seat.ensures.len, was.seats, number);
    }

pub returns-clause-workers : goal.returns-clause-workers
returns-clause-workers g c =
    let was = c.loop-writer.invariant in
    let more = c.loop-writer.yielded in
    let rest = into_iter_items c.loop-writer.writer-iterator in
    let size : length more + length rest ≡ length c.args.written.items = sym (length-append more rest) ∙ ap length was.left in
    let rests = c.loop-writer.writer-iterator.rest.ok.0 in
    elim c.match-next.branch [
      | in-None w ↦ (
          let all : vec_len c.loop-writer.made.workers ≡ vec_len c.args.written = omega (arith, was.workers, size, rests, w.in-None.ensures.steps.0, c.args.written.ok.0) in
          all ∙ sym (min-eq_right (omega (arith, was.seats, was.workers, all))))
      | in-Some+then-is_empty w ↦ (
          let none : vec_len c.loop-writer.seats ≡ 0 = eqb-true (vec_len c.loop-writer.seats) 0 (sym w.is_empty.ensures ∙ w.if-is_empty.true) in
          let all : vec_len c.loop-writer.made.workers ≡ vec_len c.args.seats = omega (arith, was.workers, was.seats, none) in
          all ∙ sym (min-eq_left (omega (arith, was.workers, all, size, c.args.written.ok.0))))
    ]
