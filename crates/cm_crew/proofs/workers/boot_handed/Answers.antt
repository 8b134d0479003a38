use Rattle.cm_register.proofs.MadeCalls.{more_made, none_made}
use Rattle.cm_crew.proofs.workers.boot_handed.Goals as goal

pub loop-init : goal.loop-init
loop-init g c = record { can = tt; ends = tt; calls = none_made c.args.booth.now }

pub loop-preserved : goal.loop-preserved
loop-preserved g c = record {
  can = tt;
  ends = tt;
  calls = more_made c.args.booth.now c.loop.booth c.boot.new.self c.loop.invariant.calls c.boot.ensures.calls;
}
