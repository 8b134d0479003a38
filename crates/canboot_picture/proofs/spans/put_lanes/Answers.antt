use Rattle.std.proofs.Common.{◌≡◌, ℕ, ◌+◌, List, ◌∷◌, length, take, refl, ap, subst, arith}
use Rattle.std.proofs.lemmas.List.{length-take}
use Rattle.canboot_picture.specs.Spans.{WritesLane, WritesLanes}
use Rattle.canboot_picture.proofs.Rows.{first_lane, lane_more, nodes_more}
use Rattle.canboot_picture.proofs.spans.put_lanes.Goals as goal

pub loop-id-init : goal.loop-id-init
loop-id-init g c = record {
  row = refl;
  written = λ entries columns.
      let net = c.args.network.now in
      let a = g.W.Write.contents c.args.out.now in
      let b = g.W.Write.contents c.put_lane.new.out in
      let size = length c.args.managers.now in
      first_lane net entries c.args.scale.now net.own size a b
      (subst (λ (n : ℕ). WritesLane net entries c.args.scale.now 0 n size a b) c.own_id.ensures.value (c.in_ok-put_lane.ensures net entries columns));
}

pub loop-id-preserved : goal.loop-id-preserved
loop-id-preserved g c = record {
  row = ap (λ (n : ℕ). n + 1) c.loop-id.invariant.row;
  written = λ entries columns.
      let net = c.args.network.now in
      let scale = c.args.scale.now in
      let ids = c.as_slice-id-items.result.now in
      let i = c.loop-id.id-index in
      let id = c.id-item.result in
      let size = length c.args.managers.now in
      let a = g.W.Write.contents c.args.out.now in
      let b = g.W.Write.contents c.loop-id.out in
      let d = g.W.Write.contents c.put_lane-in-loop-id.new.out in
      let row : c.loop-id.row + 1 ≡ length (net.own ∷ take i ids) = omega (arith, length-take i ids, c.loop-id.invariant.row, c.loop-id-test.true) in
      let one = subst (λ (n : ℕ). WritesLane net entries scale n id size b d) row (c.in_ok-put_lane-2.ensures net entries columns) in
      subst (λ (nodes : List ℕ). WritesLanes net entries scale nodes size a d) (nodes_more net.own ids i id c.loop-id-test.true c.id-item.is)
      (lane_more net entries scale (net.own ∷ take i ids) id size a b d (c.loop-id.invariant.written entries columns) one);
}
