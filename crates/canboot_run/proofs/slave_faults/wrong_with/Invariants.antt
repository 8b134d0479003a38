use Rattle.std.proofs.Common.{◌≡◌, drop}
use Rattle.canboot_run.specs.SlaveFaults.{wrong_with}
use Rattle.canboot_run.proofs.slave_faults.wrong_with.Given as goal

-- with what is left it will have all wrong values
abbrev pub invariant-loop-one : goal.invariant-loop-one
invariant-loop-one l = wrong_with (drop l.one-index l.wrong) l.id l.slave ≡ wrong_with l.wrong l.id l.fn.slave
