use Rattle.std.proofs.Common.{refl}
use Rattle.canboot_turns.proofs.Going.{noted}
use Rattle.canboot_turns.proofs.progress.Progress+Entry.note.Goals as goal

pub returns-then-is_halted : goal.returns-then-is_halted
returns-then-is_halted c = λ s past f.
    noted c.args.self.now _ c.args.network.now s past c.args.now _ c.requires.other refl refl f (c.take-told.ensures.taken s past f.watches)

pub returns-else-is_halted : goal.returns-else-is_halted
returns-else-is_halted c = λ s past f.
    noted c.args.self.now _ c.args.network.now s past c.args.now _ c.requires.other refl refl f (c.take-told.ensures.taken s past f.watches)
