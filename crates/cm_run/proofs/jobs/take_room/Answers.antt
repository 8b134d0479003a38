use Rattle.std.proofs.Common.{◌≤◌, ◌∙◌, arith, vec_capacity}
use Rattle.std.proofs.lemmas.List.Elements.{All-push}
use Rattle.cm_run.proofs.jobs.take_room.Goals as goal

pub loop-preserved : goal.loop-preserved
loop-preserved g c =
    let was = c.loop.invariant in
    record {
      count = omega (arith, was.count, c.push_reserved.ensures.len);
      room = c.push_reserved.ensures.capacity ∙ was.room;
      roomy = rw c.push_reserved.ensures.items (All-push (λ list. c.args.slaves ≤ vec_capacity list) _ _ was.roomy c.in_ok-with_capacity.ensures.capacity);
    }
