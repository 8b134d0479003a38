use Rattle.std.proofs.Common.{◌≡◌, ℕ, ◌≤◌, ◌<◌, ◌+◌, sym, ◌∙◌, arith}
use borrow.Author.Count.{below_more}
use Rattle.canboot_picture.specs.Columns.{past_at, shown_at}
use Rattle.canboot_picture.proofs.spans.run_end.Goals as goal

pub returns-then-shown-state-clause-run : goal.returns-then-shown-state-clause-run
returns-then-shown-state-clause-run c = λ net entries width columns.
    let first = c.shown-state.ensures net (past_at width entries c.args.first) (columns.stands c.args.first c.index-managers-first.result c.requires c.index-managers-first.is) in
    let here = c.shown.ensures net (past_at width entries c.loop-column.column)
    (columns.stands c.loop-column.column c.index-managers-column.result c.loop-column-test.true c.index-managers-column.is) in
    record {
      longer = omega arith;
      inside = omega arith;
      same = c.loop-column.invariant net entries width columns;
      ends = λ inside same. c.if-shown-state.true (here ∙ same ∙ sym first);
    }

pub loop-column-preserved : goal.loop-column-preserved
loop-column-preserved c = λ net entries width columns k low high.
    let state : ℕ → ℕ = shown_at net entries width c.args.id in
    let first = c.shown-state.ensures net (past_at width entries c.args.first) (columns.stands c.args.first c.index-managers-first.result c.requires c.index-managers-first.is) in
    let here = c.shown.ensures net (past_at width entries c.loop-column.column)
    (columns.stands c.loop-column.column c.index-managers-column.result c.loop-column-test.true c.index-managers-column.is) in
    let P : ℕ → Type 0 = λ j. c.args.first ≤ j → state j ≡ state c.args.first in
    below_more P c.loop-column.column (λ j small above. c.loop-column.invariant net entries width columns j above small)
    (λ above. sym here ∙ c.if-shown-state.false ∙ first) k high low
