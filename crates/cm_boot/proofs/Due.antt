-- What follows from a field that is due, and from none.
use Rattle.std.proofs.Common.{◌≡◌, ℕ, suc, zero, ◌<◌, Bool, true, false, cond, ◌&&◌, ◌||◌, not, nat_le, List, [], ◌∷◌, Option, Some, None, refl, ap, arith, length, option_map, ◌==◌}
use Rattle.std.specs.List.{list_all, find, slice_get}
use Rattle.cm_netlist.specs.Network.{terms_of}
use Rattle.cm_netlist.specs.declared.entry.SlaveEntry.{SlaveEntry}
use Rattle.cm_nmt.specs.declared.terms.Terms.{Terms}
use Rattle.cm_nmt.specs.Answers.{none, id_of}
use Rattle.cm_nmt.specs.Fields.{fields}
use Rattle.cm_nmt.specs.Conditions.{condition, is_complete, is_lawful, is_proper, is_used, writes_are_counted}
use Rattle.cm_boot.specs.Questions.{question}
use Rattle.cm_boot.specs.Progress.{Booting, due, next_field, next_step, question_due, step_of, terms}
use Rattle.cm_nmt.specs.Verdict.{judged, verdict}
use Rattle.cm_nmt.specs.declared.answers.Answers.{Answers}
use Rattle.cm_nmt.specs.declared.status.Status.{Status}
use Rattle.cm_boot.specs.declared.question.Question.{Question}
use Rattle.cm_boot.specs.declared.question.Step.TheVariants.{Ask, Done}
use Rattle.std.proofs.lemmas.Bool.Decides.{nat_tests}
use Rattle.cm_nmt.specs.declared.field.Field.{Field}
use Rattle.cm_nmt.specs.declared.field.Field.TheVariants.{Device, Vendor, Product, Revision, Serial, State, Date, Time, Writes, Beat}
use Rattle.cm_nmt.proofs.Both.{and_left, and_right, both, judged_is}

passes_step : {X : Type 0} (p : X → Bool) (y x : X) (rest : Option X) → (rest ≡ Some x → p x ≡ true) → (b : Bool) → p y ≡ b → cond b (Some y) rest ≡ Some x → p x ≡ true
passes_step p y x rest later true is e = let same : y ≡ x = cc in rw (← same) is
passes_step p y x rest later false is e = later e

-- what `find` gives passes the test
pub find_passes : {X : Type 0} (p : X → Bool) (xs : List X) (x : X) → find p xs ≡ Some x → p x ≡ true
find_passes p [] x e = cc
find_passes p (y ∷ ys) x e = passes_step p y x (find p ys) (λ h. find_passes p ys x h) (p y) refl e

none_step : {X : Type 0} (x : X) (rest : Option X) (all : Bool) → (rest ≡ None → all ≡ true) → (b d : Bool) → cond (b && not d) (Some x) rest ≡ None → ((not b || d) && all) ≡ true
none_step x rest all later true true e = later e
none_step x rest all later true false e = cc
none_step x rest all later false true e = later e
none_step x rest all later false false e = later e

-- where no field is due, each has its answers
all_from_none : {X : Type 0} (c k : X → Bool) (xs : List X) → find (λ x. c x && not (k x)) xs ≡ None → list_all (λ x. not (c x) || k x) xs ≡ true
all_from_none c k [] e = refl
all_from_none c k (x ∷ xs) e = none_step x (find (λ y. c y && not (k y)) xs) _ (all_from_none c k xs) (c x) (k x) e

pub lawful_from_none : (t : Terms) (a : Answers) → is_proper (Some t) a ≡ true → next_field t a ≡ None → is_lawful (Some t) a ≡ true
lawful_from_none t a proper e = both _ _ proper (all_from_none (condition t a) (is_complete t a) fields e)

pub none_is_proper : (t : Option Terms) → is_proper t none ≡ true
unfolding fields is_used id_of writes_are_counted
none_is_proper None = refl
none_is_proper (Some t) = both _ _ (both _ _ (grind arith) refl) refl

-- where each field has its answers, none is due
none_from_all : (c k : Field → Bool) (xs : List Field) → list_all (λ x. not (c x) || k x) xs ≡ true → find (λ x. c x && not (k x)) xs ≡ None
none_from_all c k [] h = refl
none_from_all c k (x ∷ xs) h =
    let passed : (c x && not (k x)) ≡ false = let e = and_left (not (c x) || k x) (list_all (λ x. not (c x) || k x) xs) h in grind arith in
    rw passed (none_from_all c k xs (and_right (not (c x) || k x) (list_all (λ x. not (c x) || k x) xs) h))

pub none_from_lawful : (t : Option Terms) (a : Answers) → is_lawful t a ≡ true → due t a ≡ None
none_from_lawful None a h = refl
none_from_lawful (Some t) a h = none_from_all (condition t a) (is_complete t a) fields (and_right (is_proper (Some t) a) _ h)

-- a record is lawful exactly where it is proper and no field is due
pub lawful_from_due : (t : Option Terms) (a : Answers) → is_proper t a ≡ true → due t a ≡ None → is_lawful t a ≡ true
lawful_from_due None a proper h = both _ _ proper refl
lawful_from_due (Some t) a proper h = lawful_from_none t a proper h

open_from_due : (t : Terms) (a : Answers) (f : Field) (b : Bool) → next_field t a ≡ Some f → is_lawful (Some t) a ≡ b → b ≡ false
open_from_due t a f true h lawful = let none = none_from_lawful (Some t) a lawful in cc
open_from_due t a f false h lawful = refl

-- ---- the next step
pub judged_from_lawful : (t : Option Terms) (a : Answers) → is_lawful t a ≡ true → judged t a ≡ Some (verdict t a)
unfolding judged
judged_from_lawful t a h = rw h refl

judged_from_open : (t : Option Terms) (a : Answers) → is_lawful t a ≡ false → judged t a ≡ None
unfolding judged
judged_from_open t a h = rw h refl

-- where no field is due, the boot has ended with the verdict
pub done_next : (b : Booting) (o : Option Terms) (s : Status) → terms b ≡ o → is_proper (terms b) b.answers ≡ true → due o b.answers ≡ None → s ≡ verdict o b.answers → next_step b ≡ Some (Done s)
done_next b o s known proper nothing says =
    let lawful : is_lawful (terms b) b.answers ≡ true = lawful_from_due (terms b) b.answers proper (rw known nothing) in
    rw (judged_from_lawful (terms b) b.answers lawful, says, known) refl

-- where one is, its question is asked
pub ask_next : (b : Booting) (e : SlaveEntry) (f : Field) (q : Question) → b.entry ≡ Some e → next_field (terms_of e) b.answers ≡ Some f → question e b.answers f ≡ Some q → next_step b ≡ Some (Ask q)
ask_next b e f q is due_ asks =
    let known : terms b ≡ Some (terms_of e) = ap (option_map terms_of) is in
    let open_ : judged (terms b) b.answers ≡ None = rw known (judged_from_open (Some (terms_of e)) b.answers (open_from_due (terms_of e) b.answers f _ due_ refl)) in
    let asked_ : question_due b ≡ Some q = rw (is, due_) asks in
    rw (open_, asked_) refl

ask_step : (o : Option Status) (r : Option Question) (q : Question) → step_of o r ≡ Some (Ask q) → r ≡ Some q
ask_step (Some s) r q h = cc
ask_step None None q h = cc
ask_step None (Some p) q h = let same : p ≡ q = cc in rw same refl

done_step : (o : Option Status) (r : Option Question) (s : Status) → step_of o r ≡ Some (Done s) → o ≡ Some s
done_step (Some v) r s h = let same : v ≡ s = cc in rw same refl
done_step None None s h = cc
done_step None (Some p) s h = cc

pub asked_next : (b : Booting) (q : Question) → next_step b ≡ Some (Ask q) → question_due b ≡ Some q
asked_next b q h = ask_step (judged (terms b) b.answers) (question_due b) q h

pub lawful_next : (b : Booting) (s : Status) → next_step b ≡ Some (Done s) → is_lawful (terms b) b.answers ≡ true
lawful_next b s h = (judged_is (terms b) b.answers s (done_step (judged (terms b) b.answers) (question_due b) s h)).0

option_map_none : {X Y : Type 0} (f : X → Y) (o : Option X) → option_map f o ≡ None → o ≡ None
option_map_none f None e = refl
option_map_none f (Some x) e = cc

some_write : {X : Type 0} (xs : List X) (k : ℕ) → k < length xs → slice_get xs k ≡ None → ⊥
some_write [] k h e = absurd (omega arith)
some_write (x ∷ xs) zero h e = cc
some_write (x ∷ xs) (suc k) h e = some_write xs k (omega arith) e

writes_left : (m n : ℕ) (r s : Bool) → (nat_le m n && s) ≡ true → not (m == n || r) ≡ true → m < n
writes_left m n r s fits due = grind (arith, nat_tests)

-- a field that is due has a question
pub question_is_there : (e : SlaveEntry) (a : Answers) (f : Field) → is_proper (Some (terms_of e)) a ≡ true → next_field (terms_of e) a ≡ Some f → question e a f ≡ None → ⊥
unfolding question is_complete writes_are_counted
question_is_there e a Device proper due gone = cc
question_is_there e a Vendor proper due gone = cc
question_is_there e a Product proper due gone = cc
question_is_there e a Revision proper due gone = cc
question_is_there e a Serial proper due gone = cc
question_is_there e a State proper due gone = cc
question_is_there e a Date proper due gone = cc
question_is_there e a Time proper due gone = cc
question_is_there e a Writes proper due gone =
    let open_ = and_right _ _ (find_passes _ fields Writes due) in
    some_write e.writes.items a.acked (writes_left a.acked (length e.writes.items) _ _ (and_left _ _ proper) open_) (option_map_none _ _ gone)
question_is_there e a Beat proper due gone = cc

-- where a write is due, one is left
pub writes_room : (t : Terms) (a : Answers) → is_proper (Some t) a ≡ true → next_field t a ≡ Some Writes → a.acked < t.writes
unfolding is_complete writes_are_counted
writes_room t a proper due = writes_left a.acked t.writes _ _ (and_left _ _ proper) (and_right _ _ (find_passes (λ g. condition t a g && not (is_complete t a g)) fields Writes due))
