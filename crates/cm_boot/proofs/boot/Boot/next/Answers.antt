use Rattle.std.proofs.Common.{◌≡◌, ◌∙◌, true, Some, None, Option, refl, ap, sym, subst}
use Rattle.std.specs.Option.{option_copied}
use Rattle.cm_netlist.specs.Network.{terms_of}
use Rattle.cm_nmt.specs.declared.terms.Terms.{Terms}
use Rattle.cm_boot.specs.BootView.{view_of}
use Rattle.cm_nmt.specs.Conditions.{is_proper}
use Rattle.cm_boot.specs.Progress.{next_field, terms}
use Rattle.cm_nmt.specs.Verdict.{verdict}
use Rattle.cm_boot.proofs.Due.{ask_next, done_next, question_is_there}
use Rattle.cm_boot.proofs.boot.Boot.next.Goals as goal

pub returns-in_default-clause-next : goal.returns-in_default-clause-next
returns-in_default-clause-next c =
    rw (← c.self.view_is) (done_next (view_of c.self.inside) None _ (ap (λ o. terms (record { entry = option_copied o; answers = c.self.inside.answers })) c.in_default.is) c.self.invariant.proper refl c.status_of.ensures)

pub returns-in_default-next_field-clause-next : goal.returns-in_default-next_field-clause-next
returns-in_default-next_field-clause-next c =
    let t = terms_of c.in-Some.entry.now in
    let nothing : next_field t c.self.inside.answers ≡ None = rw (← c.terms-terms.ensures.value) (sym c.next_field.ensures ∙ c.in_default-next_field.is) in
    let says : c.status_of-in_default-next_field.result ≡ verdict (Some t) c.self.inside.answers = rw (← c.terms-terms.ensures.value) c.status_of-in_default-next_field.ensures in
    let known : terms (view_of c.self.inside) ≡ Some t = ap (λ o. terms (record { entry = option_copied o; answers = c.self.inside.answers })) c.in-Some.is in
    rw (← c.self.view_is) (done_next (view_of c.self.inside) (Some t) _ known c.self.invariant.proper nothing says)

pub returns-clause-next : goal.returns-clause-next
returns-clause-next c =
    let due : next_field (terms_of c.in-Some.entry.now) c.self.inside.answers ≡ Some c.in-Some-next_field.field = rw (← c.terms-terms.ensures.value) (sym c.next_field.ensures ∙ c.in-Some-next_field.is) in
    rw (← c.self.view_is) (ask_next (view_of c.self.inside) c.in-Some.entry.now c.in-Some-next_field.field _ (ap option_copied c.in-Some.is) due (sym c.question.ensures ∙ c.in-Some-question.is))

pub unreachable-requires : goal.unreachable-requires
unreachable-requires c =
    let due : next_field (terms_of c.in-Some.entry.now) c.self.inside.answers ≡ Some c.in-Some-next_field.field = rw (← c.terms-terms.ensures.value) (sym c.next_field.ensures ∙ c.in-Some-next_field.is) in
    let known : terms (view_of c.self.inside) ≡ Some (terms_of c.in-Some.entry.now) = ap (λ o. terms (record { entry = option_copied o; answers = c.self.inside.answers })) c.in-Some.is in
    let proper : is_proper (Some (terms_of c.in-Some.entry.now)) c.self.inside.answers ≡ true = subst (λ (o : Option Terms). is_proper o c.self.inside.answers ≡ true) known c.self.invariant.proper in
    question_is_there c.in-Some.entry.now c.self.inside.answers c.in-Some-next_field.field proper due (sym c.question.ensures ∙ c.in_default-question.is)
