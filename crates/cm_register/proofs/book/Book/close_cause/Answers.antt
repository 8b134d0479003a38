use Rattle.std.proofs.Common.{◌≡◌, ◌∙◌, List, refl, sym, ap, subst, arith}
use mathlib.Core.Bool.{true≢false}
use Rattle.cm_history.specs.declared.call.Entry.{Entry}
use Rattle.cm_register.specs.Knowing.{AllHaveCallsOf}
use Rattle.cm_register.specs.Reads.{AllKnown}
use Rattle.cm_register.specs.Views.{BookView}
use Rattle.cm_register.proofs.book.Book.close_cause.Goals as goal

pub overflow_sub-result : goal.overflow_sub-result
overflow_sub-result g c = omega (arith, c.if-given-wanted.true)

pub overflow_cast-result : goal.overflow_cast-result
overflow_cast-result g c = record { fits = omega (arith, c.from-wanted.ensures) }

pub returns-then-given-wanted-clause-may : goal.returns-then-given-wanted-clause-may
returns-then-given-wanted-clause-may g c = tt

pub returns-then-given-wanted-clause-fault : goal.returns-then-given-wanted-clause-fault
returns-then-given-wanted-clause-fault g c = (
  omega (arith, c.if-given-wanted.true),
  omega (arith, c.if-given-wanted.true, c.from-wanted.ensures, c.self.invariant.seats),
)

pub returns-then-not-are_known-clause-may : goal.returns-then-not-are_known-clause-may
returns-then-not-are_known-clause-may g c = tt

pub returns-then-not-are_known-clause-fault : goal.returns-then-not-are_known-clause-fault
returns-then-not-are_known-clause-fault g c = omega (arith, c.if-given-wanted.false, c.from-wanted.ensures, c.self.invariant.seats)

pub returns-then-not-are_apart-clause-may : goal.returns-then-not-are_apart-clause-may
returns-then-not-are_apart-clause-may g c = tt

pub returns-then-not-are_apart-clause-fault : goal.returns-then-not-are_apart-clause-fault
returns-then-not-are_apart-clause-fault g c = (
  omega (arith, c.if-given-wanted.false, c.from-wanted.ensures, c.self.invariant.seats),
  λ apart. absurd (true≢false (sym (c.if-not-are_apart.ensures.1 apart))),
)

pub returns-clause-may : goal.returns-clause-may
returns-clause-may g c =
    let seats = c.args.seats.now in
    let same : c.past.result ≡ c.args.self.now.history = c.past.ensures ∙ (c.self.invariant.shown ∙ ap (λ (b : BookView). b.history) c.self.view_is) in
    record {
      all = omega (arith, c.if-given-wanted.false, c.from-wanted.ensures, c.self.invariant.seats);
      apart = c.if-not-are_apart.ensures.0 refl;
      known = subst (λ (h : List Entry). AllKnown h seats) same (c.if-not-are_known.ensures.known refl);
      calls = subst (λ (h : List Entry). AllHaveCallsOf h seats) same (c.if-not-are_known.ensures.calls refl);
    }

pub returns-clause-fault : goal.returns-clause-fault
returns-clause-fault g c = tt
