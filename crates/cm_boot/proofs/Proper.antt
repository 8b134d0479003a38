-- An answer to the field that is due keeps the answers proper.
use Rattle.std.proofs.Common.{◌≡◌, ◌∙◌, ℕ, ◌+◌, Bool, true, false, ◌&&◌, ◌||◌, not, ◌==◌, Some, refl, sym, subst, arith, nat_lt, nat_le, length}
use Rattle.std.specs.List.{list_all}
use Rattle.std.proofs.lemmas.Bool.{false≢true}
use Rattle.std.proofs.lemmas.Bool.Decides.{nat_tests}
use Rattle.cm_nmt.specs.declared.terms.Terms.{Terms}
use Rattle.cm_nmt.specs.Got.{is_answered}
use Rattle.cm_nmt.specs.Fields.{fields}
use Rattle.cm_nmt.specs.Conditions.{answers_are_due, condition, is_complete, is_proper, is_used, writes_are_counted}
use Rattle.cm_boot.specs.Progress.{next_field, with_answer}
use Rattle.cm_nmt.specs.declared.answers.Answers.{Answers}
use Rattle.cm_nmt.specs.declared.field.Field.{Field}
use Rattle.cm_nmt.specs.declared.field.Field.TheVariants.{Device, Vendor, Product, Revision, Serial, State, Date, Time, Writes, Beat}
use Rattle.cm_boot.specs.declared.question.Answer.{Answer}
use Rattle.cm_nmt.proofs.Both.{and_left, and_right, both, all_at}
use Rattle.cm_boot.proofs.Due.{find_passes}
use Rattle.cm_boot.proofs.Order.{place, stands}
use Rattle.cm_boot.proofs.Stays.{IsFieldKept, by_field, conditions_stay, uses_stay, same_place}

all_from : (p : Field → Bool) → ((f : Field) → p f ≡ true) → list_all p fields ≡ true
unfolding fields
all_from p h = rw (h Device, h Vendor, h Product, h Revision, h Serial, h State, h Date, h Time, h Writes, h Beat) refl

-- an answered field of proper answers has its condition
pub used_has_condition : (t : Terms) (a : Answers) → answers_are_due t a ≡ true → (f : Field) → is_used a f ≡ true → condition t a f ≡ true
used_has_condition t a h f u = let at = all_at (λ g. not (is_used a g) || condition t a g) h f in grind arith

pub due_from_each : (t : Terms) (a : Answers) → ((f : Field) → is_used a f ≡ true → condition t a f ≡ true) → answers_are_due t a ≡ true
due_from_each t a h = all_from (λ g. not (is_used a g) || condition t a g) (λ f. let e = h f in grind arith)

-- where a field is due, no later one is answered
pub none_later : (t : Terms) (a : Answers) (f g : Field) → answers_are_due t a ≡ true → condition t a f ≡ true → is_complete t a f ≡ false → nat_lt (place f) (place g) ≡ true → is_used a g ≡ false
none_later t a f g proper c open_ lt = by (is_used a g) refl
  where
    by : (u : Bool) → is_used a g ≡ u → is_used a g ≡ false
    by false e = e
    by true e = absurd (false≢true (sym open_ ∙ stands t a (used_has_condition t a proper) f g lt c (used_has_condition t a proper g e)))

due_kept : (t : Terms) (a b : Answers) (f : Field) (x : Answer) → length a.ids ≡ 4 → answers_are_due t a ≡ true → condition t a f ≡ true → is_complete t a f ≡ false → with_answer a f x ≡ Some b → answers_are_due t b ≡ true
due_kept t a b f x four proper c open_ e = due_from_each t b (λ g u. at g u (nat_lt (place f) (place g)) (place g == place f) refl refl)
  where
    at : (g : Field) → is_used b g ≡ true → (later same : Bool) → nat_lt (place f) (place g) ≡ later → (place g == place f) ≡ same → condition t b g ≡ true
    at g u later true l s = subst (λ h. condition t b h ≡ true) (sym (same_place f g s)) (conditions_stay t a b f f x four (grind (arith, nat_tests)) e ∙ c)
    at g u true false l s = absurd (false≢true (sym (none_later t a f g proper c open_ l) ∙ (sym (uses_stay a b f g x four s e) ∙ u)))
    at g u false false l s = conditions_stay t a b f g x four (grind (arith, nat_tests)) e ∙ used_has_condition t a proper g (sym (uses_stay a b f g x four s e) ∙ u)

one_more_fits : (m n : ℕ) (r g : Bool) → (nat_le m n && (not r || (nat_lt m n && g))) ≡ true → (m == n || r) ≡ false → (nat_le (m + 1) n && (not r || (nat_lt (m + 1) n && g))) ≡ true
one_more_fits m n true g fits open_ = grind (arith, nat_tests)
one_more_fits m n false g fits open_ = grind (arith, nat_tests)

one_failed_fits : (m n : ℕ) (r g r2 g2 : Bool) → (nat_le m n && (not r || (nat_lt m n && g))) ≡ true → (m == n || r) ≡ false → g2 ≡ true → (nat_le m n && (not r2 || (nat_lt m n && g2))) ≡ true
one_failed_fits m n r g r2 g2 fits open_ e = grind (arith, nat_tests)

counts : (t : Terms) (a : Answers) (f : Field) → writes_are_counted t a ≡ true → is_complete t a f ≡ false → IsFieldKept (λ b. writes_are_counted t b ≡ true) a f
unfolding writes_are_counted is_complete
counts t a Device w open_ = λ x. w
counts t a Writes w open_ = (one_more_fits a.acked t.writes (is_answered a.refused) _ w open_, λ g r. one_failed_fits a.acked t.writes (is_answered a.refused) _ (is_answered g) _ w open_ r)
counts t a _ w open_ = λ x. w

-- what `find` gives is due
pub due_field : (t : Terms) (a : Answers) (f : Field) → next_field t a ≡ Some f → (condition t a f ≡ true) × (is_complete t a f ≡ false)
due_field t a f due = let test = find_passes (λ g. condition t a g && not (is_complete t a g)) fields f due in grind arith

-- an answer to the field that is due keeps the answers proper
pub proper_kept : (t : Terms) (a b : Answers) (f : Field) (x : Answer) → length a.ids ≡ 4 → is_proper (Some t) a ≡ true → next_field t a ≡ Some f → with_answer a f x ≡ Some b → is_proper (Some t) b ≡ true
proper_kept t a b f x four proper due e =
    let d = due_field t a f due in
    both _ _ (by_field (λ c. writes_are_counted t c ≡ true) a b f x (counts t a f (and_left _ _ proper) d.1) e)
    (due_kept t a b f x four (and_right _ _ proper) d.0 d.1 e)
