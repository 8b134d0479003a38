use Rattle.std.proofs.Common.{◌∙◌, ap, sym}
use Rattle.cm_text.specs.Decimal.{dec_of}
use Rattle.cm_text.specs.FieldReading.{field_at}
use Rattle.cm_shown.proofs.NodeNames.{longer_word, no_node, no_number, node_made, whole_number}
use Rattle.cm_shown.proofs.names.node_of.Goals as goal

pub returns-in_err-number : goal.returns-in_err-number
returns-in_err-number c =
    let read = ap (field_at (dec_of 127)) (sym c.new-fields.ensures) ∙ c.in_err-number.ensures.value in
    rw c.from_residual.ensures (no_node c.args.word.now (no_number c.args.word.now read))

pub returns-then-is_done : goal.returns-then-is_done
returns-then-is_done c =
    let read = ap (field_at (dec_of 127)) (sym c.new-fields.ensures) ∙ c.in_ok-number.ensures.value in
    let whole = whole_number c.args.word.now c.in_ok-number.number _ read (sym c.is_done.ensures ∙ c.if-is_done.true) in
    node_made c.args.word.now c.new.result c.in_ok-number.number whole c.new.ensures.valid c.new.ensures.value c.in_ok-number.ensures.small

pub returns-else-is_done : goal.returns-else-is_done
returns-else-is_done c =
    let read = ap (field_at (dec_of 127)) (sym c.new-fields.ensures) ∙ c.in_ok-number.ensures.value in
    no_node c.args.word.now (longer_word c.args.word.now c.in_ok-number.number _ read (sym c.is_done.ensures ∙ c.if-is_done.false))
