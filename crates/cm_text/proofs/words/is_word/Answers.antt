use Rattle.std.proofs.Common.{sym, arith, ◌∙◌, ap, ◌&&◌, eqb, get_or}
use Rattle.cm_text.proofs.Same.{same_more}
use Rattle.cm_text.proofs.words.is_word.Goals as goal

pub loop-at-preserved : goal.loop-at-preserved
loop-at-preserved c =
    let at = c.loop-at.at in
    let word = c.args.word.now in
    let text = c.args.text.now in
    ap (λ so_far. so_far && eqb (get_or word at 0) (get_or text at 0)) c.loop-at.invariant ∙ sym (same_more at word text (omega (arith, c.if-word-text.false)) c.loop-at-test.true)
