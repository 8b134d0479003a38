-- Two tests as one, and what a test of each field says.
use Rattle.std.proofs.Common.{◌≡◌, Bool, true, false, cond, ◌&&◌, List, [], ◌∷◌, Option, Some, None, refl, arith, if◌then◌else◌}
use Rattle.std.specs.List.{list_all}
use Rattle.cm_nmt.specs.declared.terms.Terms.{Terms}
use Rattle.cm_nmt.specs.Fields.{fields}
use Rattle.cm_nmt.specs.Conditions.{is_lawful}
use Rattle.cm_nmt.specs.Verdict.{judged, verdict}
use Rattle.cm_nmt.specs.declared.answers.Answers.{Answers}
use Rattle.cm_nmt.specs.declared.status.Status.{Status}
use Rattle.cm_nmt.specs.declared.field.Field.{Field}
use Rattle.cm_nmt.specs.declared.field.Field.TheVariants.{Device}

-- two tests of each are one test of each
pub all_both : {X : Type 0} (p q : X → Bool) (xs : List X) → list_all (λ x. p x && q x) xs ≡ (list_all p xs && list_all q xs)
all_both p q [] = refl
all_both p q (x ∷ xs) = rw (all_both p q xs) (grind arith)

-- the same, where a third test is passed and the value is chosen by all of them
pub chosen_by_both : {X Y : Type 0} (w : Bool) (p q : X → Bool) (xs : List X) (some none : Y) → w ≡ true → (if list_all (λ x. p x && q x) xs then some else none) ≡ (if (w && list_all p xs) && list_all q xs then some else none)
chosen_by_both w p q xs some none passed = rw (passed, all_both p q xs) refl

pub and_left : (a b : Bool) → (a && b) ≡ true → a ≡ true
and_left true b e = refl
and_left false b e = e

pub and_right : (a b : Bool) → (a && b) ≡ true → b ≡ true
and_right true b e = e
and_right false b e = cc

pub both : (a b : Bool) → a ≡ true → b ≡ true → (a && b) ≡ true
both a b p q = rw (p, q) refl

judged_by : (b : Bool) (v s : Status) → cond b (Some v) None ≡ Some s → (b ≡ true) × (v ≡ s)
judged_by true v s h = (refl, cc)
judged_by false v s h = cc

-- a record has a status exactly where it is lawful, and it is the verdict
pub judged_is : (t : Option Terms) (a : Answers) (s : Status) → judged t a ≡ Some s → (is_lawful t a ≡ true) × (verdict t a ≡ s)
unfolding judged
judged_is t a s h = judged_by (is_lawful t a) (verdict t a) s h

pub all_at : (p : Field → Bool) → list_all p fields ≡ true → (f : Field) → p f ≡ true
unfolding fields
all_at p h Device = grind arith
all_at p h _ = grind arith
