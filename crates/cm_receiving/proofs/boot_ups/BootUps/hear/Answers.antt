use Rattle.std.proofs.Common.{ℕ, subst, sym}
use Rattle.cm_receiving.specs.BootUps.{EndsNoBootUp}
use Rattle.cm_receiving.proofs.Lines.{same_some}
use Rattle.cm_receiving.proofs.boot_ups.BootUps.hear.Goals as goal

pub note-requires-clause-others : goal.note-requires-clause-others
note-requires-clause-others g c = λ n other.
    subst (λ (k : ℕ). EndsNoBootUp g.B.BusName.format g.B.BusName.text n k) (sym c.self.view_is)
    (c.requires.only n (λ is. other (sym (same_some c.in-Some.node n (c.in-Some.ensures n is)))))

pub note-requires-in-Some-doubled-clause-others : goal.note-requires-in-Some-doubled-clause-others
note-requires-in-Some-doubled-clause-others g c = λ n other.
    subst (λ (k : ℕ). EndsNoBootUp g.B.BusName.format g.B.BusName.text n k) (sym c.self.view_is)
    (c.requires.only n (λ is. let none = c.in-None.ensures n is in absurd cc))

pub pass-requires-clause-none : goal.pass-requires-clause-none
pass-requires-clause-none g c = λ n.
    subst (λ (k : ℕ). EndsNoBootUp g.B.BusName.format g.B.BusName.text n k) (sym c.self.view_is)
    (c.requires.only n (λ is. let none = c.in-None.ensures n is in absurd cc))
