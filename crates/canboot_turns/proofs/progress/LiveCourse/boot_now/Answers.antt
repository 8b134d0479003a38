use Rattle.std.proofs.Common.{◌∙◌, ◌++◌, Option, sym, subst}
use Rattle.canboot_turns.specs.Asking.{asked_unless}
use Rattle.canboot_turns.specs.Going.{Follows}
use Rattle.cm_telling.specs.declared.no_boot.NoBoot.{NoBoot}
use Rattle.canboot_turns.proofs.progress.LiveCourse.boot_now.Goals as goal

pub returns-in-Some-clause-told : goal.returns-in-Some-clause-told
returns-in-Some-clause-told g c = λ s past f.
    subst (λ (o : Option NoBoot). Follows c.args.self.now.progress c.args.self.now.network.now s (asked_unless o c.args.id c.args.now ++ past))
    (sym c.in-Some.is ∙ c.no_boot.ensures s past f.watches) f

pub returns-in-None-clause-told : goal.returns-in-None-clause-told
returns-in-None-clause-told g c = λ s past f.
    subst (λ (o : Option NoBoot). Follows c.note.new.self.progress c.args.self.now.network.now s (asked_unless o c.args.id c.args.now ++ past))
    (sym c.in-None.is ∙ c.no_boot.ensures s past f.watches) (c.note.ensures.told s past f)
