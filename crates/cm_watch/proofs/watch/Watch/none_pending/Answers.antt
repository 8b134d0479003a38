use Rattle.std.proofs.Common.{◌≡◌, arith, true, false, rules, sym, ℕ, Bool}
use Rattle.std.proofs.lemmas.Grind.{common_steps}
use Rattle.cm_watch.specs.Watches.{is_pending_by}
use Rattle.cm_watch.proofs.Lists.{none_chosen, none_more, one_chosen}
use Rattle.cm_watch.proofs.watch.Watch.none_pending.Goals as goal
use Rattle.cm_watch.proofs.watch.Watch.none_pending.Goals.{in-Some+else-is_pending, in_default}

pub returns-then-is_pending : goal.returns-then-is_pending
returns-then-is_pending c =
    let p : ℕ → Bool = is_pending_by c.args.self.now.slaves c.args.network.now c.args.pending in
    let same : c.in-Some.id ≡ c.loop-number.number = search rules in
    let same_back = sym same in
    let chose : p c.loop-number.number ≡ true = rw (same_back) (cc) in
    sym (one_chosen p c.loop-number.number (omega arith) (omega arith) chose)

pub loop-number-preserved : goal.loop-number-preserved
loop-number-preserved c =
    let p : ℕ → Bool = is_pending_by c.args.self.now.slaves c.args.network.now c.args.pending in
    elim c.match-new.branch [
      | in-Some+else-is_pending w ↦
          let same : w.in-Some.id ≡ c.loop-number.number = search rules in
          let same_back = sym same in
          let left_out : p c.loop-number.number ≡ false = rw (same_back) (cc) in
          none_more p c.loop-number.number (omega arith) c.loop-number.invariant left_out
      | in_default w ↦ absurd (grind (arith, common_steps))
    ]

pub returns : goal.returns
returns c = sym (none_chosen (is_pending_by c.args.self.now.slaves c.args.network.now c.args.pending) c.loop-number.number (omega arith) c.loop-number.invariant)
