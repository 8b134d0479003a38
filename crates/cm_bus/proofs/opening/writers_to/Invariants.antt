use Rattle.std.proofs.Common.{◌≡◌, vec_len}
use Rattle.cm_bus.proofs.opening.writers_to.Given as goal

abbrev pub invariant-loop-writer : goal.invariant-loop-writer
invariant-loop-writer l = vec_len l.writers ≡ l._writer
