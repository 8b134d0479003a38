use Rattle.std.proofs.Common.{◌≡◌, ℕ, ◌<◌, false}
use Rattle.canboot_run.specs.SlaveFaults.{is_unlisted}
use Rattle.canboot_run.proofs.slave_faults.SlaveFaults.unlisted.Given as goal

-- none so far
abbrev pub invariant-loop-number : goal.invariant-loop-number
invariant-loop-number l = (j : ℕ) → 0 < j → j < l.number → is_unlisted l.network l.self j ≡ false
