use Rattle.std.proofs.Common.{ℕ}
use Rattle.std.proofs.lemmas.List.{get_or-replicate}
use Rattle.cm_telling.proofs.sent.Sent.new.Goals as goal

pub returns : goal.returns
returns c = λ k inside. get_or-replicate {A = ℕ} 640 k 0 0 inside
