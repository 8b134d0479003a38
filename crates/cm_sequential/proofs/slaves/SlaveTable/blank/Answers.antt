use Rattle.std.proofs.Common.{ℕ, refl}
use Rattle.std.proofs.lemmas.List.{get_or-replicate}
use Rattle.cm_sequential.proofs.slaves.SlaveTable.blank.Goals as goal

pub returns-clause-slaves : goal.returns-clause-slaves
returns-clause-slaves c = λ i small. rw (get_or-replicate {A = ℕ} 128 i 0 0 small, c.empty.ensures i) refl
