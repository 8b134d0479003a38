use base.Growing.{prefix_refl}
use Rattle.cm_versions.proofs.reader.keep.Goals as goal

pub returns-then-not-begins-clause-later : goal.returns-then-not-begins-clause-later
returns-then-not-begins-clause-later g c = prefix_refl c.args.known.now
