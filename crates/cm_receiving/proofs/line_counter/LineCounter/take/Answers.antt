use Rattle.std.proofs.Common.{take, refl}
use Rattle.cm_receiving.proofs.Lines.{cut_more, line_at, line_before}
use Rattle.cm_receiving.proofs.OneLine.{one_line}
use Rattle.cm_receiving.proofs.line_counter.LineCounter.take.Goals as goal

pub returns-then-is_line-clause-counting : goal.returns-then-is_line-clause-counting
returns-then-is_line-clause-counting c = λ t at old.
    cut_more t c.args.self.now.taken c.args.byte c.args.self.now.lines c.take-is_line.new.self at old c.take-is_line.ensures.cutting

pub returns-else-is_line-clause-counting : goal.returns-else-is_line-clause-counting
returns-else-is_line-clause-counting c = λ t at old.
    cut_more t c.args.self.now.taken c.args.byte c.args.self.now.lines c.take-is_line.new.self at old c.take-is_line.ensures.cutting

pub returns-then-is_line-clause-line : goal.returns-then-is_line-clause-line
returns-then-is_line-clause-line c = λ t at old.
    let here = c.if-is_line.ensures.line refl (take c.args.self.now.taken t) old in
    line_at t c.args.self.now.taken c.args.byte c.take-is_line.new.self.line.items at here.0 here.1

pub returns-then-is_line-clause-only : goal.returns-then-is_line-clause-only
returns-then-is_line-clause-only c = λ t at old line has.
    let front = take c.args.self.now.taken t in
    one_line front line c.take-is_line.new.self.line.items (line_before t c.args.self.now.taken c.args.byte line at has).1 (c.if-is_line.ensures.line refl front old).1

pub returns-else-is_line-clause-none : goal.returns-else-is_line-clause-none
returns-else-is_line-clause-none c = λ t at old line has few.
    let here = line_before t c.args.self.now.taken c.args.byte line at has in
    c.take-is_line.ensures.none c.if-is_line.false (take c.args.self.now.taken t) old here.0 line here.1 few
