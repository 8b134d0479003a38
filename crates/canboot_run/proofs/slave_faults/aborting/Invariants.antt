use Rattle.std.proofs.Common.{◌≡◌, drop}
use Rattle.canboot_run.specs.SlaveFaults.{aborting}
use Rattle.canboot_run.proofs.slave_faults.aborting.Given as goal

-- with what is left it will abort all objects
abbrev pub invariant-loop-one : goal.invariant-loop-one
invariant-loop-one l = aborting (drop l.one-index l.aborted) l.id l.writes l.slave ≡ aborting l.aborted l.id l.writes l.fn.slave
