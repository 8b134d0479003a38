use Rattle.std.proofs.Common.{sym, refl}
use Rattle.cm_text.specs.Left.{parts}
use Rattle.cm_text.proofs.Heads.{text_too_long, text_is_other, text_is_cut, text_behind}
use Rattle.cm_text.proofs.near.behind_text.Goals as goal

pub returns-then-bytes-text : goal.returns-then-bytes-text
returns-then-bytes-text c = text_too_long c.args.separator c.args.text.now c.args.bytes.now c.if-bytes-text.true

pub returns-then-not-is_word : goal.returns-then-not-is_word
returns-then-not-is_word c = text_is_other c.args.separator c.args.text.now c.args.bytes.now (rw (← c.split_at.ensures.front) (sym c.if-not-is_word.ensures))

pub returns-then-holds : goal.returns-then-holds
returns-then-holds c = text_is_cut c.args.separator c.args.text.now c.args.bytes.now (c.if-holds.ensures.holds refl)

pub returns : goal.returns
returns c =
    let cut = c.split_at.ensures in
    text_behind c.args.separator c.args.text.now c.args.bytes.now (parts c.args.separator) c.behind.result (rw (← cut.front) (sym c.if-not-is_word.ensures)) (c.if-holds.ensures.lacks refl)
    (rw (← cut.back) c.behind.ensures)
