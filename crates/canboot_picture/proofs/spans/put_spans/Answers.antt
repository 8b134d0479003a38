use Rattle.std.proofs.Common.{◌≡◌, ℕ, length, subst, arith}
use Rattle.std.specs.Io.KnownBytes.{Appends}
use Rattle.canboot_picture.specs.Columns.{past_at, shown_at}
use Rattle.canboot_picture.specs.Spans.{AreSpans, span_text}
use Rattle.canboot_picture.proofs.Runs.{none_written, span_more}
use Rattle.canboot_picture.proofs.spans.put_spans.Goals as goal

pub loop-first-init : goal.loop-first-init
loop-first-init g c = record {
  inside = omega arith;
  written = λ net entries columns. none_written _ _ _ _ _ _;
}

pub loop-first-preserved : goal.loop-first-preserved
loop-first-preserved g c = record {
  inside = c.run_end-end.ensures.inside;
  written = λ net entries columns.
      let width = c.args.scale.now.width in
      let first = c.loop-first.first in
      let b = g.W.Write.contents c.loop-first.out in
      let d = g.W.Write.contents c.put_span.new.out in
      let shown = c.shown.ensures net (past_at width entries first) (columns.stands first c.index-managers-first.result c.loop-first-test.true c.index-managers-first.is) in
      let text = subst (λ (n : ℕ). Appends b d (span_text c.args.scale.now c.args.row n (record { first = first; end = c.run_end-end.result; state = c.shown.result })))
      c.get.ensures.value c.in_ok-put_span.ensures in
      span_more (shown_at net entries width c.args.id) c.args.scale.now c.args.row c.args.id (length c.args.managers.now) first c.run_end-end.result c.shown.result _ b d
      (c.loop-first.invariant.written net entries columns) (c.run_end-end.ensures.run net entries width columns) shown text;
}

pub returns : goal.returns
returns g c = λ net entries columns.
    let before = c.loop-first.invariant.written net entries columns in
    let inside = c.loop-first.invariant.inside in
    let all : c.loop-first.first ≡ length c.args.managers.now = omega arith in
    record {
      spans = before.spans;
      shown = subst (λ (n : ℕ). AreSpans (shown_at net entries c.args.scale.now.width c.args.id) n before.spans) all before.shown;
      written = before.written;
    }
