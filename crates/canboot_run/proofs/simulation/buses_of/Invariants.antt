use Rattle.std.proofs.Common.{◌≡◌, vec_len}
use Rattle.canboot_run.proofs.Buses.{AreBusesUpTo}
use Rattle.canboot_run.proofs.simulation.buses_of.Given as goal

abbrev pub invariant-loop-place : goal.invariant-loop-place
invariant-loop-place l = record {
  count : vec_len l.buses ≡ l.workers;
  buses : AreBusesUpTo l.network l.workers l.options.faults l.place l.ids l.buses.items;
}
