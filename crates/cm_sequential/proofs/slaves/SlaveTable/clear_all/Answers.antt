use Rattle.std.proofs.Common.{ℕ, refl}
use Rattle.std.proofs.lemmas.List.{get_or-replicate}
use Rattle.cm_sequential.proofs.slaves.SlaveTable.clear_all.Goals as goal

pub returns-then-all-clause-slaves : goal.returns-then-all-clause-slaves
returns-then-all-clause-slaves c = λ i small. rw (get_or-replicate {A = ℕ} 128 i 0 0 small, c.empty-self.ensures i, c.if-all.true) refl
