use Rattle.std.proofs.Common.{◌≡◌, ◌∙◌, ◌<◌, ℕ, ap, sym, arith, rules, length}
use Rattle.std.proofs.lemmas.Grind.{common_steps}
use Rattle.std.proofs.Math.ListN.{set}
use Rattle.std.proofs.lemmas.List.{get_or_default, length-set}
use Rattle.cm_watch.specs.Kept.{blank_slave}
use Rattle.cm_watched.specs.KeptOfSlaves.{slave_after}
use Rattle.cm_watch.specs.Watches.{kept_at}
use Rattle.cm_watched.specs.declared.slave.Slave.{Slave}
use Rattle.cm_watch.proofs.Rows.{take_step}
use Rattle.cm_watch.proofs.taking.take_each.Goals as goal
use Rattle.cm_watch.proofs.taking.take_each.Goals.{in-Some, in_default}

pub loop-number-preserved : goal.loop-number-preserved
loop-number-preserved c =
    elim c.match-new.branch [
      | in-Some w ↦
          let n = c.loop-number.number in
          let after : ℕ → Slave → Slave = slave_after c.args.network.now c.args.settings c.args.now c.args.moment.now in
          let long : length c.loop-number.slaves ≡ 128 =
          sym (length-set c.loop-number.slaves w.from-place.result w.after.result) ∙ sym (ap length w.slaves-is) ∙ c.match-new.array_long in
          let within : n < length c.loop-number.slaves = omega arith in
          let place_within : w.from-place.result < length c.loop-number.slaves = omega (arith, w.from-place.ensures) in
          let id_is : w.in-Some.id ≡ n = search rules in
          let is : w.after.result ≡ after n (kept_at c.loop-number.slaves n) =
          w.after.ensures
          ∙ ap (λ (s : Slave). after w.in-Some.id s) (get_or_default c.loop-number.slaves w.from-place.result _ blank_slave place_within)
          ∙ ap (λ (k : ℕ). after w.in-Some.id (kept_at c.loop-number.slaves k)) w.from-place.ensures
          ∙ ap (λ (k : ℕ). after k (kept_at c.loop-number.slaves n)) id_is in
          let new : c.match-new.slaves ≡ set c.loop-number.slaves n w.after.result = w.slaves-is ∙ ap (λ k. set c.loop-number.slaves k w.after.result) w.from-place.ensures in
          let both = take_step after c.args.slaves.now c.loop-number.slaves n w.after.result within is c.loop-number.invariant.done c.loop-number.invariant.left in
          record { done = λ i low high. rw new (both.0 i low high); left = λ i high. rw new (both.1 i high) }
      | in_default w ↦ absurd (grind (arith, common_steps))
    ]
