use Rattle.std.proofs.Common.{◌∙◌}
use Rattle.cm_receiving.proofs.OneLine.{cutting_on, ended_none, goes_on}
use Rattle.cm_receiving.proofs.line_cutter.LineCutter.take.Goals as goal

pub returns-then-byte-eq10-clause-none : goal.returns-then-byte-eq10-clause-none
returns-then-byte-eq10-clause-none c = λ passed taken old ends line last few.
    ended_none taken c.begin.new.self (c.begin.ensures.line taken old) (c.begin.ensures.long taken old) (c.end.ensures.passed passed) line last few

pub returns-clause-cutting : goal.returns-clause-cutting
returns-clause-cutting c = λ taken old.
    cutting_on taken c.args.byte c.begin.new.self c.add.new.self (goes_on c.args.byte c.if-byte-eq10.false c.if-byte-eq13.false) (c.begin.ensures.line taken old) (c.begin.ensures.long taken old)
    (c.add.ensures.going ∙ c.begin.ensures.going) c.add.ensures.added c.add.ensures.long
