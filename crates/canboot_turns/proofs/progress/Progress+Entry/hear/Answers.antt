use Rattle.std.proofs.Common.{refl}
use Rattle.cm_watched.specs.Guarding.{counts}
use Rattle.canboot_turns.proofs.Going.{heard_follows}
use Rattle.canboot_turns.proofs.progress.Progress+Entry.hear.Goals as goal

pub returns : goal.returns
returns c = λ s past f.
    let net = c.args.network.now in
    heard_follows c.args.self.now _ net s past c.args.now c.args.id c.args.byte (counts net past c.args.id c.args.byte) refl refl f (c.hear.ensures s past f.watches)
