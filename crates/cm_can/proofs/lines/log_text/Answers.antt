use Rattle.std.proofs.Common.{◌∷◌, ◌++◌, sym, ◌∙◌, arith}
use Rattle.cm_can.proofs.Spaces.{no_space, same_cut}
use Rattle.cm_can.proofs.lines.log_text.Goals as goal

pub returns-in_default-clause-none : goal.returns-in_default-clause-none
returns-in_default-clause-none c = λ text line. no_space line.time (line.interface ++ 32 ∷ text) (rw line.parts at c.in_default.ensures.none)

pub returns-in_default-cut-clause-none : goal.returns-in_default-cut-clause-none
returns-in_default-cut-clause-none c =
    let first = c.in-Some.ensures.some in
    λ text line.
    let cut = same_cut c.in-Some.time.now c.in-Some.rest.now line.time (line.interface ++ 32 ∷ text) first.0 line.unspaced.0 (sym first.1 ∙ line.parts) in
    no_space line.interface text (rw cut.1 at c.in_default-cut.ensures.none)

pub returns-then-not-is_time-clause-none : goal.returns-then-not-is_time-clause-none
returns-then-not-is_time-clause-none c =
    let first = c.in-Some.ensures.some in
    λ text line.
    let cut = same_cut c.in-Some.time.now c.in-Some.rest.now line.time (line.interface ++ 32 ∷ text) first.0 line.unspaced.0 (sym first.1 ∙ line.parts) in
    let timed = rw (← cut.0) at line.timed in
    grind arith

pub returns-clause-only : goal.returns-clause-only
returns-clause-only c =
    let first = c.in-Some.ensures.some in
    let second = c.in-Some-cut.ensures.some in
    λ other line.
    let cut = same_cut c.in-Some.time.now c.in-Some.rest.now line.time (line.interface ++ 32 ∷ other) first.0 line.unspaced.0 (sym first.1 ∙ line.parts) in
    let last = same_cut c.in-Some-cut.field-0-0.now c.in-Some-cut.text.now line.interface other second.0 line.unspaced.1 (sym second.1 ∙ cut.1) in
    sym last.1
