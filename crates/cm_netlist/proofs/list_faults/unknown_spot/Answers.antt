use Rattle.std.proofs.Common.{◌≡◌, false, map, refl, subst, sym, Some, None}
use Rattle.cm_netlist.specs.Keys.{is_listed}
use Rattle.cm_netlist.specs.ListKeys.{key_of}
use Rattle.cm_netlist.proofs.Walk.{unknown_found, unknown_is}
use Rattle.cm_netlist.proofs.list_faults.unknown_spot.Goals as goal

pub returns-in-Some-clause-place : goal.returns-in-Some-clause-place
returns-in-Some-clause-place c = (
  refl,
  subst (λ n. is_listed (map key_of c.args.keys.now) c.args.array.now n ≡ false) (sym c.as_str.ensures.value)
      (unknown_is (map key_of c.args.keys.now) c.args.array.now c.args.table.now.entries c.in-Some.name.now c.in-Some.ensures),
)

pub returns-in-Some-clause-applies : goal.returns-in-Some-clause-applies
returns-in-Some-clause-applies c = unknown_found (map key_of c.args.keys.now) c.args.array.now c.args.table.now.entries (Some c.in-Some.name.now) c.in-Some.ensures

pub returns-in-None-clause-applies : goal.returns-in-None-clause-applies
returns-in-None-clause-applies c = unknown_found (map key_of c.args.keys.now) c.args.array.now c.args.table.now.entries None c.in-None.ensures
