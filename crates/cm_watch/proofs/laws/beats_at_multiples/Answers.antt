use Rattle.cm_watch.proofs.Multiples.{at_multiples}
use Rattle.cm_watch.proofs.laws.beats_at_multiples.Goals as goal

pub returns : goal.returns
returns c = at_multiples
