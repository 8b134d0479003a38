use Rattle.std.proofs.Common.{◌≡◌, ◌∙◌, ◌≤◌, true, Some, Option, ap, sym, subst, arith}
use Rattle.std.specs.Option.{option_copied}
use Rattle.cm_netlist.specs.Network.{terms_of}
use Rattle.cm_nmt.specs.declared.terms.Terms.{Terms}
use Rattle.cm_nmt.specs.Conditions.{is_proper}
use Rattle.cm_boot.specs.Progress.{next_field, terms}
use Rattle.cm_boot.specs.BootView.{view_of}
use Rattle.cm_boot.proofs.Proper.{proper_kept}
use Rattle.cm_boot.proofs.Stays.{four_stay}
use Rattle.cm_boot.proofs.Due.{writes_room}
use Rattle.cm_nmt.specs.declared.field.Field.TheVariants.{Writes}
use Rattle.cm_boot.proofs.boot.Boot.answer.Goals as goal

pub invariant_of-self : goal.invariant_of-self
invariant_of-self c =
    let t = terms_of c.in-Some.entry.now in
    let due : next_field t c.self.inside.answers ≡ Some c.in-Some-next_field.field = rw (← c.terms-terms.ensures.value) (sym c.next_field.ensures ∙ c.in-Some-next_field.is) in
    let known : terms (view_of c.self.inside) ≡ Some t = ap (λ o. terms (record { entry = option_copied o; answers = c.self.inside.answers })) c.in-Some.is in
    let proper : is_proper (Some t) c.self.inside.answers ≡ true = subst (λ (o : Option Terms). is_proper o c.self.inside.answers ≡ true) known c.self.invariant.proper in
    let taken = sym c.with_answer.ensures ∙ c.in-Some-with_answer.is in
    record {
      proper = subst (λ (o : Option Terms). is_proper o c.in-Some-with_answer.after ≡ true) (sym known)
          (proper_kept t c.self.inside.answers c.in-Some-with_answer.after c.in-Some-next_field.field c.args.answer c.self.invariant.four proper due taken);
      four = four_stay c.self.inside.answers c.in-Some-with_answer.after c.in-Some-next_field.field c.args.answer c.self.invariant.four taken;
      few = c.self.invariant.few;
    }

pub with_answer-requires : goal.with_answer-requires
with_answer-requires c = λ writes.
    let t = terms_of c.in-Some.entry.now in
    let due : next_field t c.self.inside.answers ≡ Some Writes = rw (← c.terms-terms.ensures.value) (sym c.next_field.ensures ∙ c.in-Some-next_field.is ∙ ap Some writes) in
    let known : terms (view_of c.self.inside) ≡ Some t = ap (λ o. terms (record { entry = option_copied o; answers = c.self.inside.answers })) c.in-Some.is in
    let proper : is_proper (Some t) c.self.inside.answers ≡ true = subst (λ (o : Option Terms). is_proper o c.self.inside.answers ≡ true) known c.self.invariant.proper in
    let few : t.writes ≤ 32 = rw (ap (λ r. r.writes) c.terms-terms.ensures.value) at c.terms-terms.ensures.few in
    omega (arith, writes_room t c.self.inside.answers proper due)
