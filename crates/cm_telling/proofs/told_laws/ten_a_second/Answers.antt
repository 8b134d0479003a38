use Rattle.cm_telling.proofs.Limiting.{ten_a_second}
use Rattle.cm_telling.proofs.told_laws.ten_a_second.Goals as goal

pub returns : goal.returns
returns c = ten_a_second
