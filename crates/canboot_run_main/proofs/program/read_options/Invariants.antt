use Rattle.std.proofs.Common.{length}
use Rattle.canboot_run_main.specs.Words.{AreInRange}
use Rattle.canboot_run_main.proofs.program.read_options.Given as goal

-- the options so far are in range
abbrev pub invariant-loop-left : goal.invariant-loop-left
invariant-loop-left g l = AreInRange l.options

-- each round takes two words
abbrev pub decreases-loop-left : goal.decreases-loop-left
decreases-loop-left g l = length l.left
