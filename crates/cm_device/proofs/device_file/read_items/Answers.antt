use Rattle.std.proofs.Common.{◌≡◌, length, sym, ap, ◌∙◌, arith, ◌==◌}
use Rattle.std.proofs.lemmas.List.Splits.{length-slice_split}
use Rattle.std.proofs.lemmas.List.Sums.{count_by-le-length}
use Rattle.cm_text.specs.Words.{split}
use Rattle.cm_text.specs.Left.{left}
use Rattle.cm_device.specs.DeviceFiles.{behind_mark}
use Rattle.cm_device.proofs.DeviceFiles.{all_read, all_taken, taken, line_next, left_behind}
use Rattle.cm_device.proofs.device_file.read_items.Goals as goal

pub loop-line-init : goal.loop-line-init
loop-line-init c =
    let same : split 10 (behind_mark c.args.file.now) ≡ left c.new-lines.result = ap (split 10) (sym c.behind_mark.ensures) ∙ sym c.new-lines.ensures in
    record {
      rest = same;
      count = omega (arith, ap length (sym same));
      items = λ k d low. absurd (omega (arith, low, ap length c.new-items.ensures.items));
      all = λ section key value has low. absurd (omega (arith, low));
      begun = tt;
    }

pub overflow_add-number : goal.overflow_add-number
overflow_add-number c =
    let text = c.behind_mark.result.now in
    record {
      fits = omega (
        arith,
        c.loop-line.invariant.count,
        ap length c.in-Some.ensures,
        length-slice_split (λ b. b == 10) (behind_mark c.args.file.now),
        count_by-le-length (λ b. b == 10) (behind_mark c.args.file.now),
        ap length c.behind_mark.ensures,
        c.behind_mark.type_inv,
      );
    }

pub loop-line-smaller : goal.loop-line-smaller
loop-line-smaller c = omega (arith, ap length c.in-Some.ensures)

pub loop-line-preserved : goal.loop-line-preserved
loop-line-preserved c =
    let file = behind_mark c.args.file.now in
    let n = c.loop-line.number in
    let was = c.loop-line.invariant in
    let is = was.rest ∙ c.in-Some.ensures in
    let text = c.trim_ascii-text.result.now in
    let there = line_next file n c.in-Some.line.now c.before_comment.result.now text _ is c.before_comment.ensures c.trim_ascii-text.ensures.value in
    let more = taken file n text there _ _ _ _ was.items was.begun c.in-Ok.ensures in
    record {
      rest = left_behind file n c.in-Some.line.now _ is;
      count = omega (arith, was.count, ap length c.in-Some.ensures);
      items = more.0;
      all = all_taken file n text there _ _ _ _ was.begun was.all c.in-Ok.ensures;
      begun = more.1;
    }

pub returns-clause-items : goal.returns-clause-items
returns-clause-items c = c.loop-line.invariant.items

pub returns-clause-all : goal.returns-clause-all
returns-clause-all c = all_read (behind_mark c.args.file.now) c.loop-line.number c.loop-line.items.items (omega (arith, c.loop-line.invariant.count, ap length c.in_default.ensures.0)) c.loop-line.invariant.all
