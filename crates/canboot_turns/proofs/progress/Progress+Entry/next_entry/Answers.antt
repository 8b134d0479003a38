use Rattle.std.proofs.lemmas.Option.{IfSome_then}
use Rattle.canboot_turns.specs.Going.{counts_in, placed_in}
use Rattle.canboot_turns.proofs.Going.{none_then}
use Rattle.canboot_turns.proofs.progress.Progress+Entry.next_entry.Goals as goal

pub returns-clause-next : goal.returns-clause-next
returns-clause-next c = λ net s past f.
    IfSome_then c.next.result (c.next.ensures.gives f.arrived (placed_in past) f.said (counts_in net past) f.tells)
    (λ e given. record { watches = f.watches; tries = f.tries; arrived = f.arrived; said = f.said; gives = given })

pub returns-clause-none : goal.returns-clause-none
returns-clause-none c = λ net s past f.
    none_then c.next.result (c.next.ensures.stays f.arrived (placed_in past) f.said (counts_in net past) f.tells)
    (λ tells. record { watches = f.watches; tries = f.tries; arrived = f.arrived; said = f.said; tells = tells })
