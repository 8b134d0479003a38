use Rattle.std.proofs.Common.{◌≡◌, arith, true, false, get_or}
use Rattle.std.proofs.lemmas.Grind.{common_steps}
use Rattle.cm_words.specs.ToldLines.{is_unbooted_in}
use Rattle.cm_words.proofs.Filters.{kept_step}
use Rattle.cm_words.proofs.nodes.unbooted_nodes.Goals as goal
use Rattle.cm_words.proofs.nodes.unbooted_nodes.Goals.{then-is_unbooted, else-is_unbooted}

pub loop-id-preserved : goal.loop-id-preserved
loop-id-preserved c = (
  elim c.if-is_unbooted.branch [
    | then-is_unbooted w ↦ grind (arith, common_steps)
    | else-is_unbooted w ↦ grind (arith, common_steps)
  ],
  λ s past watches tries.
      let ids = c.as_slice-id-items.result.now in
      let test = is_unbooted_in past in
      kept_step test ids c.loop-id.id-index c.loop-id.slaves.items _ (omega arith) (c.loop-id.invariant.1 s past watches tries)
      (elim c.if-is_unbooted.branch [
        | then-is_unbooted w ↦
            let passes : test (get_or ids c.loop-id.id-index 0) ≡ true =
            grind (arith, common_steps, c.is_unbooted.ensures c.args.network.now s past watches tries) in
            rw (w.slaves-is, w.push.ensures.items, passes) (grind (arith, common_steps))
        | else-is_unbooted w ↦
            let fails : test (get_or ids c.loop-id.id-index 0) ≡ false =
            grind (arith, common_steps, c.is_unbooted.ensures c.args.network.now s past watches tries) in
            rw (w.slaves-is, fails) (grind (arith, common_steps))
      ]),
)

pub returns : goal.returns
returns c = λ s past watches tries. let kept = c.loop-id.invariant.1 s past watches tries in grind (arith, common_steps, kept)
