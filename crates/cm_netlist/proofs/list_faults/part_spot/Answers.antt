use Rattle.std.proofs.Common.{◌∙◌, ap, false, sym, true}
use Rattle.std.specs.Prelude.{codes}
use Rattle.toml.specs.View.{table_view}
use Rattle.cm_netlist.specs.Document.{keys_have, write_has, writes}
use Rattle.cm_netlist.proofs.Finds.{found_any, found_passes, none_found}
use Rattle.cm_netlist.proofs.Walk.{part_at_write}
use Rattle.cm_netlist.proofs.list_faults.part_spot.Goals as goal

pub returns-in-Some-faulty_write-clause-place : goal.returns-in-Some-faulty_write-clause-place
returns-in-Some-faulty_write-clause-place c = found_passes (write_has c.args.fault) (writes (table_view c.args.slave.now)) c.in-Some-faulty_write.place c.in-Some-faulty_write.ensures

pub returns-in-Some-faulty_write-clause-applies : goal.returns-in-Some-faulty_write-clause-applies
returns-in-Some-faulty_write-clause-applies c =
    let t = table_view c.args.slave.now in
    let keys = c.in_default.ensures.applies ∙ ap (λ ks. keys_have c.args.fault ks (codes "writes") t) c.slave_integers.ensures in
    part_at_write c.args.fault c.args.own t true (sym c.itself_has.ensures ∙ c.if-itself_has.false) keys
    (sym (found_any (write_has c.args.fault) (writes t) c.in-Some-faulty_write.place c.in-Some-faulty_write.ensures))

pub returns-in-None-clause-applies : goal.returns-in-None-clause-applies
returns-in-None-clause-applies c =
    let t = table_view c.args.slave.now in
    let keys = c.in_default.ensures.applies ∙ ap (λ ks. keys_have c.args.fault ks (codes "writes") t) c.slave_integers.ensures in
    part_at_write c.args.fault c.args.own t false (sym c.itself_has.ensures ∙ c.if-itself_has.false) keys
    (sym (none_found (write_has c.args.fault) (writes t) (sym c.in-None.ensures)))
