use Rattle.std.proofs.Common.{arith}
use Rattle.canboot_run.proofs.Buses.{buses_put}
use Rattle.canboot_run.proofs.simulation.buses_of.Goals as goal

pub loop-place-preserved : goal.loop-place-preserved
loop-place-preserved c =
    let was = c.loop-place.invariant in
    record {
      count = was.count;
      buses = buses_put c.args.network.now c.from-workers.result c.args.options.now.faults c.loop-place.place c.as_slice-ids.result.now c.loop-place.buses.items
          c.index-ids-place.result c.index_mut.result.now c.put_slave.new.bus _ c.loop-place-test.true c.index-ids-place.is c.index_mut.ensures.value c.put_slave.ensures
          (omega (arith, was.count, c.loop-place.buses.ok.0)) was.buses;
    }
