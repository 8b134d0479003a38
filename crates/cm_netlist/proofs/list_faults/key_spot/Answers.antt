use Rattle.std.proofs.Common.{◌∙◌, ap, map, subst, sym}
use Rattle.std.specs.Prelude.{IfSome}
use Rattle.toml.specs.View.{table_view}
use Rattle.cm_netlist.specs.Document.{keys_have}
use Rattle.cm_netlist.specs.FaultPlaces.{HasByKey}
use Rattle.cm_netlist.specs.ListKeys.{key_of}
use Rattle.cm_netlist.proofs.Walk.{keys_by_value}
use Rattle.cm_netlist.proofs.list_faults.key_spot.Goals as goal

pub returns-in-UnknownKey-clause-place : goal.returns-in-UnknownKey-clause-place
returns-in-UnknownKey-clause-place c =
    subst (λ f. IfSome c.unknown_spot.result (HasByKey f (map key_of c.args.keys.now) c.args.array.now (table_view c.args.table.now))) (sym c.in-UnknownKey.is) c.unknown_spot.ensures.place

pub returns-in-UnknownKey-clause-applies : goal.returns-in-UnknownKey-clause-applies
returns-in-UnknownKey-clause-applies c =
    c.unknown_spot.ensures.applies ∙ ap (λ f. keys_have f (map key_of c.args.keys.now) c.args.array.now (table_view c.args.table.now)) (sym c.in-UnknownKey.is)

pub returns-in_default-clause-applies : goal.returns-in_default-clause-applies
returns-in_default-clause-applies c =
    c.value_spot.ensures.applies ∙ keys_by_value c.args.fault (map key_of c.args.keys.now) c.args.array.now (table_view c.args.table.now) (λ e. absurd (c.in_default.not-UnknownKey e))
