-- The turns of a boot: each asks one question more, and forty-one are enough.
use Rattle.std.proofs.Common.{◌≡◌, ◌∙◌, ℕ, ◌+◌, ◌<◌, ◌≤◌, Bool, true, false, cond, ◌&&◌, ◌||◌, not, ◌==◌, List, [], ◌∷◌, ◌++◌, Option, Some, None, refl, ap, sym, subst, arith, nat_lt, nat_le, length, option_map, option_and_then, is_some}
use Rattle.std.specs.List.{slice_get}
use Rattle.std.specs.Prelude.{IfSome}
use Rattle.std.proofs.lemmas.List.Concat.{length-flat_map}
use Rattle.std.proofs.lemmas.List.{length-append, length-take-le, length-map}
use Rattle.std.proofs.lemmas.Bool.Decides.{nat_tests}
use Rattle.cm_netlist.specs.declared.entry.SlaveEntry.{SlaveEntry}
use Rattle.cm_netlist.specs.Network.{terms_of}
use Rattle.cm_nmt.specs.Got.{is_answered, is_refusal}
use Rattle.cm_nmt.specs.Fields.{fields}
use Rattle.cm_nmt.specs.Conditions.{is_lawful, is_proper, writes_are_counted}
use Rattle.cm_boot.specs.Questions.{counted, fits, question}
use Rattle.cm_boot.specs.Progress.{Booting, IsBooting, answers_after, due, got_of, heard_of, next_field, question_due, terms, with_answer, with_write}
use Rattle.cm_boot.specs.Talk.{Talks, asked, asked_of, each_of, given, given_state}
use Rattle.cm_nmt.specs.declared.answers.Answers.{Answers}
use Rattle.cm_nmt.specs.declared.got.Got.{Got}
use Rattle.cm_nmt.specs.declared.got.Got.TheVariants as got
use Rattle.cm_nmt.specs.declared.heard.Heard.{Heard}
use Rattle.cm_nmt.specs.declared.heard.Heard.TheVariants as heard
use Rattle.cm_nmt.specs.declared.field.Field.{Field}
use Rattle.cm_nmt.specs.declared.field.Field.TheVariants.{Device, Vendor, Product, Revision, Serial, State, Date, Time, Writes, Beat}
use Rattle.cm_boot.specs.declared.question.Question.{Question}
use Rattle.cm_boot.specs.declared.question.Question.TheVariants as ask
use Rattle.cm_boot.specs.declared.question.Answer.{Answer}
use Rattle.cm_boot.specs.declared.question.Answer.TheVariants as answer
use Rattle.cm_boot.proofs.Order.{place}
use Rattle.cm_nmt.specs.Answers.{none, id_of}
use Rattle.cm_nmt.proofs.Both.{and_left, both}
use Rattle.cm_boot.proofs.Due.{lawful_from_none, question_is_there}
use Rattle.cm_boot.proofs.Proper.{proper_kept}
use Rattle.cm_boot.proofs.Stays.{four_stay}
use Rattle.cm_boot.proofs.Asked.{asked_more, write_asked, none_of}

-- ---- what fits
mapped_some : {X : Type 0} (f : X → Answers) (o : Option X) → is_some (option_map f o) ≡ is_some o
mapped_some f None = refl
mapped_some f (Some x) = refl

read_fits : (i s : ℕ) (x : Answer) → fits (ask.Read i s) x ≡ is_some (got_of x)
read_fits i s (answer.Value v) = refl
read_fits i s _ = refl

beat_fits : (x : Answer) → (fits ask.Beat x ≡ is_some (heard_of x)) × (fits ask.StateByBeat x ≡ is_some (heard_of x)) × (fits ask.StateByGuard x ≡ is_some (heard_of x))
beat_fits (answer.Value v) = (refl, refl, refl)
beat_fits _ = (refl, refl, refl)

write_fits : (w : _) (a : Answers) (x : Answer) → fits (ask.Write w) x ≡ is_some (with_write a x)
write_fits w a (answer.Value v) = refl
write_fits w a _ = refl

same_question : (p q : Question) (x : Answer) (b : Bool) → Some p ≡ Some q → fits p x ≡ b → fits q x ≡ b
same_question p q x b i h = let same : p ≡ q = cc in subst (λ r. fits r x ≡ b) same h

state_fits : (z : Bool) (x : Answer) → fits (cond z ask.StateByGuard ask.StateByBeat) x ≡ is_some (heard_of x)
state_fits true x = (beat_fits x).2
state_fits false x = (beat_fits x).1

-- an answer fits the question of a field exactly where it can be recorded there
fits_as : (e : SlaveEntry) (a : Answers) (f : Field) (q : Question) (x : Answer) → question e a f ≡ Some q → fits q x ≡ is_some (with_answer a f x)
unfolding question with_answer
fits_as e a State q x i = same_question _ q x _ i (state_fits (e.heartbeat_ms == 0) x ∙ sym (mapped_some _ (heard_of x)))
fits_as e a Beat q x i = same_question _ q x _ i ((beat_fits x).0 ∙ sym (mapped_some _ (heard_of x)))
fits_as e a Writes q x i = let w = write_asked (λ w. ask.Write w) (slice_get e.writes.items a.acked) q i in subst (λ r. fits r x ≡ is_some (with_write a x)) (sym w.2) (write_fits w.0 a x)
fits_as e a Device q x i = same_question _ q x _ i (read_fits 4096 0 x ∙ sym (mapped_some _ (got_of x)))
fits_as e a Vendor q x i = same_question _ q x _ i (read_fits 4120 1 x ∙ sym (mapped_some _ (got_of x)))
fits_as e a Product q x i = same_question _ q x _ i (read_fits 4120 2 x ∙ sym (mapped_some _ (got_of x)))
fits_as e a Revision q x i = same_question _ q x _ i (read_fits 4120 3 x ∙ sym (mapped_some _ (got_of x)))
fits_as e a Serial q x i = same_question _ q x _ i (read_fits 4120 4 x ∙ sym (mapped_some _ (got_of x)))
fits_as e a Date q x i = same_question _ q x _ i (read_fits 4128 1 x ∙ sym (mapped_some _ (got_of x)))
fits_as e a Time q x i = same_question _ q x _ i (read_fits 4128 2 x ∙ sym (mapped_some _ (got_of x)))

-- ---- how many questions
each_short : (o : Option Question) (xs : List Answer) → length (each_of o xs) ≤ length xs
each_short None xs = omega arith
each_short (Some q) xs = omega (arith, length-map {A = Answer} {B = Question × Answer} xs (λ x. (q, x)))

given_short : (g : Got) → length (given g) ≤ 1
given_short got.NotAsked = omega arith
given_short _ = omega arith

state_short : (h : Heard) → length (given_state h) ≤ 1
state_short heard.NotAsked = omega arith
state_short _ = omega arith

short : (e : SlaveEntry) (a : Answers) (o : Option Question) (g : Got) → length (each_of o (given g)) ≤ 1
short e a o g = omega (arith, each_short o (given g), given_short g)

short_state : (o : Option Question) (h : Heard) → length (each_of o (given_state h)) ≤ 1
short_state o h = omega (arith, each_short o (given_state h), state_short h)

writes_fit : (m n : ℕ) (r s : Bool) → (nat_le m n && (not r || (nat_lt m n && s))) ≡ true → (m ≤ n) × (r ≡ true → m < n)
writes_fit m n r s h = (grind (arith, nat_tests), λ e. grind (arith, nat_tests))

no_refusal : (g : Got) → is_answered g ≡ false → length (given g) ≡ 0
no_refusal got.NotAsked h = refl
no_refusal got.Silent h = cc
no_refusal (got.Abort c) h = cc
no_refusal (got.Value v) h = cc

writes_short : (e : SlaveEntry) (a : Answers) → writes_are_counted (terms_of e) a ≡ true → length (asked_of e a Writes) ≤ length e.writes.items
unfolding asked_of writes_are_counted
writes_short e a h = by (is_answered a.refused) refl
  where
    fit : (a.acked ≤ length e.writes.items) × (is_answered a.refused ≡ true → a.acked < length e.writes.items)
    fit = writes_fit a.acked (length e.writes.items) (is_answered a.refused) (is_refusal a.refused) h

    both_ : length (asked_of e a Writes) ≡ a.acked + length (each_of (question e a Writes) (given a.refused))
    both_ = simp (length-append, length-map, length-take-le a.acked e.writes.items fit.0) refl

    by : (r : Bool) → is_answered a.refused ≡ r → length (asked_of e a Writes) ≤ length e.writes.items
    by true r = let lt = fit.1 r in omega (arith, both_, short e a (question e a Writes) a.refused)
    by false r = omega (arith, both_, each_short (question e a Writes) (given a.refused), no_refusal a.refused r, fit.0)

one_short : (e : SlaveEntry) (a : Answers) (f : Field) → (place f == 8) ≡ false → length (asked_of e a f) ≤ 1
unfolding asked_of
one_short e a Writes h = absurd cc
one_short e a State h = short_state (question e a State) a.heard
one_short e a Beat h = short_state (question e a Beat) a.beat
one_short e a _ h = short e a _ _

few_of : (o : Option SlaveEntry) (a : Answers) → is_proper (option_map terms_of o) a ≡ true → IfSome o (λ e. length e.writes.items ≤ 32) → length (asked o a) ≤ 41
unfolding fields
few_of None a proper few = omega arith
few_of (Some e) a proper few =
    let w = writes_short e a (and_left _ _ proper) in
    rw (length-flat_map (asked_of e a) fields) (omega (arith, w, few, one_short e a Device refl, one_short e a Vendor refl, one_short e a Product refl, one_short e a Revision refl, one_short e a Serial refl, one_short e a State refl, one_short e a Date refl, one_short e a Time refl, one_short e a Beat refl))

-- no boot asks more than forty-one questions
pub asked_few : (b : Booting) → IsBooting b → length (asked b.entry b.answers) ≤ 41
asked_few b h = few_of b.entry b.answers h.proper h.few

-- ---- one turn
talks_more : {B : Type 0} (step : B → Question → Answer → B → Type 0) (b mid after : B) (xs : List (Question × Answer)) (q : Question) (y : Answer) → Talks step b xs mid → step mid q y after → Talks step b (xs ++ (q, counted q y) ∷ []) after
talks_more {B = B} step b mid after [] q y h s = (after, y, subst (λ (m : B). step m q y after) (sym h) s, refl, refl)
talks_more step b mid after (x ∷ xs) q y h s = (h.0, h.1, h.2, h.3, talks_more step h.0 mid after xs q y h.4 s)

-- the field whose question is due
record Due (b : Booting) (q : Question) : Type 0 where
  entry : SlaveEntry
  field : Field
  listed : b.entry ≡ Some entry
  due : next_field (terms_of entry) b.answers ≡ Some field
  asks : question entry b.answers field ≡ Some q

due_of : (b : Booting) (q : Question) → question_due b ≡ Some q → Due b q
due_of b q i = go b.entry refl i
  where
    at : (e : SlaveEntry) (o : Option Field) → b.entry ≡ Some e → next_field (terms_of e) b.answers ≡ o → option_and_then (λ f. question e b.answers f) o ≡ Some q → Due b q
    at e None is due i = cc
    at e (Some f) is due i = record { entry = e; field = f; listed = is; due = due; asks = i }

    go : (o : Option SlaveEntry) → b.entry ≡ o → option_and_then (λ e. option_and_then (λ f. question e b.answers f) (due (terms b) b.answers)) o ≡ Some q → Due b q
    go None is i = cc
    go (Some e) is i = at e (next_field (terms_of e) b.answers) is refl (subst (λ (o : Option SlaveEntry). option_and_then (λ f. question e b.answers f) (due (option_map terms_of o) b.answers) ≡ Some q) is i)

-- what an answer does, by the field
answered_by : (b : Booting) (q : Question) (d : Due b q) (x : Answer) → answers_after b x ≡ with_answer b.answers d.field x
answered_by b q d x = subst (λ (o : Option SlaveEntry). option_and_then (λ f. with_answer b.answers f x) (due (option_map terms_of o) b.answers) ≡ with_answer b.answers d.field x) (sym d.listed) (ap (option_and_then (λ f. with_answer b.answers f x)) d.due)

-- an answer that can be recorded counts as it is, and any other as silence
pub counted_kept : (b : Booting) (q : Question) (y : Answer) (a : Answers) → question_due b ≡ Some q → answers_after b y ≡ Some a → counted q y ≡ y
counted_kept b q y a i h =
    let d = due_of b q i in
    ap (λ z. cond z y answer.Silent) (fits_as d.entry b.answers d.field q y d.asks ∙ (ap is_some (sym (answered_by b q d y)) ∙ ap is_some h))

pub counted_silent : (b : Booting) (q : Question) (y : Answer) → question_due b ≡ Some q → answers_after b y ≡ None → counted q y ≡ answer.Silent
counted_silent b q y i h =
    let d = due_of b q i in
    ap (λ z. cond z y answer.Silent) (fits_as d.entry b.answers d.field q y d.asks ∙ (ap is_some (sym (answered_by b q d y)) ∙ ap is_some h))

silence_fits : (q : Question) → fits q answer.Silent ≡ true
silence_fits q = refl

pub silence_kept : (b : Booting) (q : Question) → question_due b ≡ Some q → answers_after b answer.Silent ≡ None → ⊥
silence_kept b q i h =
    let d = due_of b q i in
    let none : is_some (answers_after b answer.Silent) ≡ false = ap is_some h in
    let some : is_some (answers_after b answer.Silent) ≡ true = ap is_some (answered_by b q d answer.Silent) ∙ sym (fits_as d.entry b.answers d.field q answer.Silent d.asks) in
    cc

-- an answer that is recorded was asked for last
pub turn_asked : (b : Booting) (q : Question) (x : Answer) (a : Answers) → IsBooting b → question_due b ≡ Some q → answers_after b x ≡ Some a → asked b.entry a ≡ asked b.entry b.answers ++ (q, x) ∷ []
turn_asked b q x a h i k =
    let d = due_of b q i in
    let proper = subst (λ (o : Option SlaveEntry). is_proper (option_map terms_of o) b.answers ≡ true) d.listed h.proper in
    subst (λ (o : Option SlaveEntry). asked o a ≡ asked o b.answers ++ (q, x) ∷ []) (sym d.listed)
    (asked_more (terms_of d.entry) d.entry b.answers a d.field q x h.four proper d.due d.asks (sym (answered_by b q d x) ∙ k))

-- the answers after a turn
pub record Turned {B : Type 0} (step : B → Question → Answer → B → Type 0) (old new : B) (b : Booting) (a : Answers) : Type 0 where
  pub talk : Talks step old (asked b.entry a) new
  pub more : length (asked b.entry a) ≡ length (asked b.entry b.answers) + 1

pub turn : {B : Type 0} (step : B → Question → Answer → B → Type 0) (old mid new : B) (b : Booting) (q : Question) (y : Answer) (a : Answers) → IsBooting b → question_due b ≡ Some q → answers_after b (counted q y) ≡ Some a → Talks step old (asked b.entry b.answers) mid → step mid q y new → Turned step old new b a
turn step old mid new b q y a h i k talk s =
    let e = turn_asked b q (counted q y) a h i k in
    record {
      talk = subst (λ (xs : List (Question × Answer)). Talks step old xs new) (sym e) (talks_more step old mid new (asked b.entry b.answers) q y talk s);
      more = ap length e ∙ length-append (asked b.entry b.answers) ((q, counted q y) ∷ []);
    }

-- nothing was asked before the first question
pub none_at_first : (o : Option SlaveEntry) → asked o none ≡ []
unfolding fields asked_of id_of question
none_at_first None = refl
none_at_first (Some e) = rw (none_of (option_map (λ w. ask.Write w) (slice_get e.writes.items 0)) [] refl) refl

fits_some : {X : Type 0} (o : Option X) → is_some o ≡ true → (x : X) × (o ≡ Some x)
fits_some None h = cc
fits_some (Some x) h = (x, refl)

-- after forty-one questions nothing is due
pub turns_over : (b : Booting) → IsBooting b → 41 ≤ length (asked b.entry b.answers) → is_lawful (terms b) b.answers ≡ true
turns_over b h enough = go b.entry refl
  where
    over : (e : SlaveEntry) → b.entry ≡ Some e → (f : Field) → next_field (terms_of e) b.answers ≡ Some f → (q : Question) → question e b.answers f ≡ Some q → ⊥
    over e is f due q asks =
        let proper = subst (λ (o : Option SlaveEntry). is_proper (option_map terms_of o) b.answers ≡ true) is h.proper in
        let few = subst (λ (o : Option SlaveEntry). IfSome o (λ e. length e.writes.items ≤ 32)) is h.few in
        let s = fits_some (with_answer b.answers f answer.Silent) (sym (fits_as e b.answers f q answer.Silent asks)) in
        let after : Booting = record { entry = Some e; answers = s.0 } in
        let kept : IsBooting after = record { proper = proper_kept (terms_of e) b.answers s.0 f answer.Silent h.four proper due s.1; four = four_stay b.answers s.0 f answer.Silent h.four s.1; few = few } in
        let more = ap length (asked_more (terms_of e) e b.answers s.0 f q answer.Silent h.four proper due asks s.1) in
        let enough_ : 41 ≤ length (asked (Some e) b.answers) = subst (λ (o : Option SlaveEntry). 41 ≤ length (asked o b.answers)) is enough in
        omega (arith, asked_few after kept, more, enough_, length-append (asked (Some e) b.answers) ((q, answer.Silent) ∷ []))

    by : (e : SlaveEntry) → b.entry ≡ Some e → (o : Option Field) → next_field (terms_of e) b.answers ≡ o → is_lawful (Some (terms_of e)) b.answers ≡ true
    by e is None due = lawful_from_none (terms_of e) b.answers (subst (λ (o : Option SlaveEntry). is_proper (option_map terms_of o) b.answers ≡ true) is h.proper) due
    by e is (Some f) due = absurd (asked_at (question e b.answers f) refl)
      where
        asked_at : (o : Option Question) → question e b.answers f ≡ o → ⊥
        asked_at None i = question_is_there e b.answers f (subst (λ (o : Option SlaveEntry). is_proper (option_map terms_of o) b.answers ≡ true) is h.proper) due i
        asked_at (Some q) i = over e is f due q i

    go : (o : Option SlaveEntry) → b.entry ≡ o → is_lawful (terms b) b.answers ≡ true
    go None is = subst (λ (o : Option SlaveEntry). is_lawful (option_map terms_of o) b.answers ≡ true) (sym is) (both _ _ (subst (λ (o : Option SlaveEntry). is_proper (option_map terms_of o) b.answers ≡ true) is h.proper) refl)
    go (Some e) is = subst (λ (o : Option SlaveEntry). is_lawful (option_map terms_of o) b.answers ≡ true) (sym is) (by e is (next_field (terms_of e) b.answers) refl)
