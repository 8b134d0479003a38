use Rattle.std.proofs.Common.{◌∙◌, false, sym, true}
use Rattle.toml.specs.View.{table_view}
use Rattle.cm_shown.proofs.NodeNames.{bad_keys, bad_node, bad_values, good_nodes}
use Rattle.cm_shown.proofs.names.fault_of.Goals as goal

pub returns-then-some_key_is_bad-clause-fault : goal.returns-then-some_key_is_bad-clause-fault
returns-then-some_key_is_bad-clause-fault c =
    bad_node (table_view c.args.table.now) (sym (bad_keys c.args.table.now.entries) ∙ sym c.some_key_is_bad.ensures ∙ c.if-some_key_is_bad.true)

pub returns-then-some_value_is_bad-clause-fault : goal.returns-then-some_value_is_bad-clause-fault
returns-then-some_value_is_bad-clause-fault c =
    good_nodes (table_view c.args.table.now) true (sym (bad_keys c.args.table.now.entries) ∙ sym c.some_key_is_bad.ensures ∙ c.if-some_key_is_bad.false)
    (sym (bad_values c.args.table.now.entries) ∙ sym c.some_value_is_bad.ensures ∙ c.if-some_value_is_bad.true)

pub returns-else-some_value_is_bad-clause-fault : goal.returns-else-some_value_is_bad-clause-fault
returns-else-some_value_is_bad-clause-fault c =
    good_nodes (table_view c.args.table.now) false (sym (bad_keys c.args.table.now.entries) ∙ sym c.some_key_is_bad.ensures ∙ c.if-some_key_is_bad.false)
    (sym (bad_values c.args.table.now.entries) ∙ sym c.some_value_is_bad.ensures ∙ c.if-some_value_is_bad.false)
