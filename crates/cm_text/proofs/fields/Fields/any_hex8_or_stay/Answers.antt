use Rattle.std.proofs.Common.{sym, ap, ◌∙◌}
use Rattle.cm_text.specs.Left.{left}
use Rattle.cm_text.specs.FieldReading.{with_rest}
use Rattle.cm_text.proofs.Heads.{eight_first, eight_none}
use Rattle.cm_text.proofs.fields.Fields.any_hex8_or_stay.Goals as goal

pub returns-in_err-word-clause-value : goal.returns-in_err-word-clause-value
returns-in_err-word-clause-value c = rw c.from_residual.ensures (eight_none _ c.in_err-word.ensures)

pub returns-in_err-n-clause-value : goal.returns-in_err-n-clause-value
returns-in_err-n-clause-value c =
    let rest = left c.word.new.self in
    rw c.from_residual-in_err-n.ensures (eight_first _ _ _ c.in_ok-word.ensures ∙ ap (λ o. with_rest o rest) (sym c.in_err-n.ensures.value))

pub returns-clause-value : goal.returns-clause-value
returns-clause-value c =
    let rest = left c.word.new.self in
    eight_first _ _ _ c.in_ok-word.ensures ∙ ap (λ o. with_rest o rest) (sym c.in_ok-n.ensures.value)
