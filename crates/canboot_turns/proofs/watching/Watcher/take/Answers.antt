use Rattle.canboot_turns.proofs.Going.{both_ok}
use Rattle.canboot_turns.proofs.watching.Watcher.take.Goals as goal

pub returns-in_default-clause-told : goal.returns-in_default-clause-told
returns-in_default-clause-told g c = λ s past f.
    let told = c.take.ensures.told s past f in
    both_ok c.take.result told told (λ taken _. taken g.B.BusName.typed c.args.self.now.operator)
