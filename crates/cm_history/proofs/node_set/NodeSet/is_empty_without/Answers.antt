use Rattle.std.proofs.Common.{arith, ap, sym, ◌∙◌}
use mir.Val.{bool_byte}
use Rattle.cm_history.specs.NodeSets.{has}
use Rattle.cm_history.proofs.NodeSets.{as_byte, none_left}
use Rattle.cm_history.proofs.node_set.NodeSet.is_empty_without.Goals as goal

pub returns : goal.returns
returns c =
    none_left c.args.self.now.members c.args.id c.args.self.now.number c.from.result
    (rw (sym c.get-number.ensures.value) c.get-number.ensures.range.0)
    (rw (sym c.get-number.ensures.value) (omega (arith, c.get-number.ensures.range.1)))
    c.args.self.now.counted
    (c.from.ensures ∙ ap bool_byte c.contains.ensures ∙ as_byte (has c.args.self.now c.args.id))
