use Rattle.std.proofs.Common.{◌≡◌, ℕ, ◌<◌, ◌+◌, ◌*◌, List, [], ◌∷◌, ◌++◌, length, take, sym, ◌∙◌, ap, subst, arith, length-append}
use Rattle.std.specs.Prelude.{min, reverse}
use Rattle.cm_history.specs.declared.call.Entry.{Entry}
use Rattle.cm_sequential.specs.Compact.{IsReplayOf}
use Rattle.cm_sequential.specs.Standing.{Stands}
use Rattle.cm_sequential.specs.declared.manager.Manager.{Manager}
use Rattle.canboot_picture.proofs.Ends.{AreSoFar, column_more, next_end, next_filled, taken_to}
use Rattle.canboot_picture.proofs.columns.columns_of.Goals as goal

pub loop-from-preserved : goal.loop-from-preserved
loop-from-preserved c =
    let net = c.args.network.now in
    let entries = c.args.entries.now in
    let width = c.args.width in
    let from = c.loop-from.from in
    let to = from + c.min.result in
    let old = c.loop-from.managers.items in
    let m = c.manager.result.now in
    let so_far = c.loop-from.invariant in
    let replay = subst (λ (es : List Entry). IsReplayOf c.take_all.new.self net es) (taken_to entries from to (omega arith))
    (c.in_default.ensures.taken net (take from entries) so_far.replay) in
    let put = c.in_ok-push_or.ensures.put in
    let longer : length c.push_or.new.list.items ≡ length old + 1 = omega (arith, length-append old (m ∷ []), ap length put) in
    let end : to ≡ min ((length old + 1) * width) (length entries) =
    ap (λ (n : ℕ). from + n) c.min.ensures ∙ next_end (length old) width (length entries) from so_far.ends c.loop-from-test.true in
    let stands = subst (λ (n : ℕ). Stands m net (reverse (take n entries))) end (c.manager.ensures net (take to entries) replay) in
    record {
      replay = replay;
      columns = subst (λ (ms : List Manager). AreSoFar net entries width ms) (sym put) (column_more net entries width old m so_far.columns stands);
      ends = end ∙ ap (λ (n : ℕ). min (n * width) (length entries)) (sym longer);
      filled = subst (λ (n : ℕ). n * width < length entries + width) (sym longer)
          (next_filled (length old) width (length entries) from so_far.ends c.loop-from-test.true);
      few = omega (arith, longer, so_far.few, c.min.ensures, c.requires.wide, c.loop-from-test.true);
    }
