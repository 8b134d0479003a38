-- The proper records are those that a boot can come to, and the lawful ones those where it ends.
use Rattle.std.proofs.Common.{◌≡◌, ◌∙◌, ◌↔◌, ℕ, suc, zero, ◌+◌, ◌<◌, ◌≤◌, Bool, true, false, cond, ◌&&◌, ◌||◌, not, ◌==◌, List, [], ◌∷◌, ◌++◌, Option, Some, None, refl, ap, sym, subst, arith, nat_lt, nat_le, length, option_map, slice_set}
use Rattle.std.specs.List.{list_all, find}
use Rattle.std.proofs.lemmas.Bool.{false≢true}
use Rattle.std.proofs.lemmas.Bool.Decides.{nat_tests}
use Rattle.cm_nmt.specs.declared.terms.Terms.{Terms}
use Rattle.cm_nmt.specs.Got.{is_answered, is_refusal}
use Rattle.cm_nmt.specs.Heard.{is_heard}
use Rattle.cm_nmt.specs.Answers.{id_of}
use Rattle.cm_nmt.specs.Fields.{fields}
use Rattle.cm_nmt.specs.Conditions.{answers_are_due, asks_identity, comes_to_beat, condition, date_agrees, date_differs, device_agrees, identity_agrees, is_complete, is_dated, is_finished, is_proper, is_used, matches, may_configure, must_write, product_agrees, revision_agrees, vendor_agrees, writes_are_counted}
use Rattle.cm_boot.specs.Progress.{due, got_of, heard_of, next_field, with_answer}
use Rattle.cm_boot.specs.Procedure.{IsEnd, Reached}
use Rattle.cm_boot.specs.Procedure.Move.{Asks, Ends}
use Rattle.cm_boot.specs.Procedure.Reached.{start, more}
use Rattle.cm_nmt.specs.Verdict.{judged, verdict}
use Rattle.cm_nmt.specs.declared.status.Status.{Status}
use Rattle.cm_nmt.specs.declared.answers.Answers.{Answers}
use Rattle.cm_nmt.specs.declared.got.Got.{Got}
use Rattle.cm_nmt.specs.declared.got.Got.TheVariants as got
use Rattle.cm_nmt.specs.declared.heard.Heard.{Heard}
use Rattle.cm_nmt.specs.declared.heard.Heard.TheVariants as heard
use Rattle.cm_nmt.specs.declared.field.Field.{Field}
use Rattle.cm_nmt.specs.declared.field.Field.TheVariants.{Device, Vendor, Product, Revision, Serial, State, Date, Time, Writes, Beat}
use Rattle.cm_boot.specs.declared.question.Answer.{Answer}
use Rattle.cm_boot.specs.declared.question.Answer.TheVariants as answer
use Rattle.cm_nmt.proofs.Both.{and_left, and_right, judged_is, all_at}
use Rattle.cm_boot.proofs.Due.{judged_from_lawful, lawful_from_due, none_from_lawful, none_is_proper}
use Rattle.cm_boot.proofs.Moves.{move_is, move_to}
use Rattle.cm_boot.proofs.Order.{place, stands}
use Rattle.cm_boot.proofs.Stays.{of_four, four_stay}
use Rattle.cm_boot.proofs.Proper.{used_has_condition, proper_kept}
use Rattle.cm_boot.proofs.Asked.{before, after, parts, all_before}

-- ---- what is reached is proper
reached_four : (t : Option Terms) (a : Answers) → Reached t a → length a.ids ≡ 4
reached_four t a start = refl
reached_four t a (more {a = b} r f x c d e) = four_stay b c f x (reached_four t b r) e

step_proper : (t : Option Terms) (a b : Answers) (f : Field) (x : Answer) → length a.ids ≡ 4 → is_proper t a ≡ true → due t a ≡ Some f → with_answer a f x ≡ Some b → is_proper t b ≡ true
step_proper None a b f x four p d e = cc
step_proper (Some t) a b f x four p d e = proper_kept t a b f x four p d e

asks_due : (o : Option Field) (s : Status) (f : Field) → move_to o s ≡ Asks f → o ≡ Some f
asks_due None s f e = cc
asks_due (Some g) s f e = let same : g ≡ f = cc in rw same refl

ends_due : (o : Option Field) (v s : Status) → move_to o v ≡ Ends s → (o ≡ None) × (v ≡ s)
ends_due None v s e = (refl, cc)
ends_due (Some g) v s e = cc

reached_proper : (t : Option Terms) (a : Answers) → Reached t a → is_proper t a ≡ true
reached_proper t a start = none_is_proper t
reached_proper t a (more {a = b} r f x c d e) =
    let p = reached_proper t b r in
    step_proper t b c f x (reached_four t b r) p (asks_due (due t b) (verdict t b) f (sym (move_is t b p) ∙ d)) e

-- a field that is due is the machine's next
grow : {t : Option Terms} {a : Answers} → Reached t a → (f : Field) → (x : Answer) → (b : Answers) → due t a ≡ Some f → with_answer a f x ≡ Some b → Reached t b
grow {t = t} {a = a} r f x b d e = more r f x b (move_is t a (reached_proper t a r) ∙ ap (λ o. move_to o (verdict t a)) d) e

-- ---- a record up to a place
upto : ℕ → Answers → Answers
upto n a = record {
  device = cond (nat_lt 0 n) a.device got.NotAsked;
  ids = cond (nat_lt 1 n) (id_of a 0) got.NotAsked ∷ cond (nat_lt 2 n) (id_of a 1) got.NotAsked ∷ cond (nat_lt 3 n) (id_of a 2) got.NotAsked ∷ cond (nat_lt 4 n) (id_of a 3) got.NotAsked ∷ [];
  heard = cond (nat_lt 5 n) a.heard heard.NotAsked;
  date = cond (nat_lt 6 n) a.date got.NotAsked;
  time = cond (nat_lt 7 n) a.time got.NotAsked;
  acked = cond (nat_lt 8 n) a.acked 0;
  refused = cond (nat_lt 8 n) a.refused got.NotAsked;
  beat = cond (nat_lt 9 n) a.beat heard.NotAsked;
}

same_condition : (t : Terms) (a : Answers) (f g : Field) → nat_le (place g) (place f) ≡ true → condition t (upto (place f) a) g ≡ condition t a g
unfolding upto condition id_of matches device_agrees asks_identity vendor_agrees product_agrees revision_agrees identity_agrees may_configure must_write comes_to_beat is_dated date_agrees date_differs
same_condition t a Device Device le = cc
same_condition t a Vendor Device le = cc
same_condition t a Product Device le = cc
same_condition t a Revision Device le = cc
same_condition t a Serial Device le = cc
same_condition t a State Device le = cc
same_condition t a Date Device le = cc
same_condition t a Time Device le = cc
same_condition t a Writes Device le = cc
same_condition t a Beat Device le = cc
same_condition t a _ _ le = cc

same_complete : (t : Terms) (a : Answers) (f g : Field) → nat_lt (place g) (place f) ≡ true → is_complete t (upto (place f) a) g ≡ is_complete t a g
unfolding upto is_complete is_used id_of
same_complete t a Device Device lt = cc
same_complete t a Vendor Device lt = cc
same_complete t a Product Device lt = cc
same_complete t a Revision Device lt = cc
same_complete t a Serial Device lt = cc
same_complete t a State Device lt = cc
same_complete t a Date Device lt = cc
same_complete t a Time Device lt = cc
same_complete t a Writes Device lt = cc
same_complete t a Beat Device lt = cc
same_complete t a _ _ lt = cc

-- ---- which field is due
find_skip : (p q : Field → Bool) (xs ys : List Field) (f : Field) → list_all q xs ≡ true → ((g : Field) → q g ≡ true → p g ≡ false) → p f ≡ true → find p (xs ++ (f ∷ ys)) ≡ Some f
find_skip p q [] ys f all skip h = rw h refl
find_skip p q (x ∷ xs) ys f all skip h = rw (skip x (and_left (q x) (list_all q xs) all)) (find_skip p q xs ys f (and_right (q x) (list_all q xs) all) skip h)

find_first : (p : Field → Bool) (f : Field) → ((g : Field) → nat_lt (place g) (place f) ≡ true → p g ≡ false) → p f ≡ true → find p fields ≡ Some f
find_first p f skip h = rw (parts f) (find_skip p (λ g. nat_lt (place g) (place f)) (before f) (after f) f (all_before f) skip h)

-- a field is due in a record that has the answers before it
due_before : (t : Terms) (a b : Answers) (f : Field) → answers_are_due t a ≡ true → condition t a f ≡ true → condition t b f ≡ condition t a f → ((g : Field) → nat_lt (place g) (place f) ≡ true → (condition t b g ≡ condition t a g) × (is_complete t b g ≡ is_complete t a g)) → is_complete t b f ≡ false → next_field t b ≡ Some f
due_before t a b f proper c same earlier open_ = find_first (λ g. condition t b g && not (is_complete t b g)) f skip (let h = same ∙ c in grind arith)
  where
    passed : (g : Field) → nat_lt (place g) (place f) ≡ true → (k : Bool) → condition t a g ≡ k → (condition t a g && not (is_complete t a g)) ≡ false
    passed g lt true e = let d = stands t a (used_has_condition t a proper) g f lt e c in grind arith
    passed g lt false e = grind arith

    skip : (g : Field) → nat_lt (place g) (place f) ≡ true → (condition t b g && not (is_complete t b g)) ≡ false
    skip g lt = let h = earlier g lt in rw (h.0, h.1) (passed g lt (condition t a g) refl)

open_at : (t : Terms) (a : Answers) (f : Field) → (place f == 8) ≡ false → is_complete t (upto (place f) a) f ≡ false
unfolding upto is_complete is_used id_of
open_at t a Writes h = cc
open_at t a _ h = refl

due_at : (t : Terms) (a : Answers) (f : Field) → answers_are_due t a ≡ true → (place f == 8) ≡ false → is_used a f ≡ true → next_field t (upto (place f) a) ≡ Some f
due_at t a f proper other u =
    due_before t a (upto (place f) a) f proper (used_has_condition t a proper f u) (same_condition t a f f (grind (arith, nat_tests)))
    (λ g lt. (same_condition t a f g (grind (arith, nat_tests)), same_complete t a f g lt)) (open_at t a f other)

-- ---- a field more is reached
add_got : (t : Option Terms) (a : Answers) (f : Field) (set : Got → Answers) (g : Got) → ((x : Answer) → with_answer a f x ≡ option_map set (got_of x)) → set got.NotAsked ≡ a → (is_answered g ≡ true → due t a ≡ Some f) → Reached t a → Reached t (set g)
add_got t a f set got.NotAsked w e d r = subst (λ (b : Answers). Reached t b) (sym e) r
add_got t a f set got.Silent w e d r = grow r f answer.Silent (set got.Silent) (d refl) (w answer.Silent)
add_got t a f set (got.Abort c) w e d r = grow r f (answer.Abort c) (set (got.Abort c)) (d refl) (w (answer.Abort c))
add_got t a f set (got.Value v) w e d r = grow r f (answer.Value v) (set (got.Value v)) (d refl) (w (answer.Value v))

add_heard : (t : Option Terms) (a : Answers) (f : Field) (set : Heard → Answers) (h : Heard) → ((x : Answer) → with_answer a f x ≡ option_map set (heard_of x)) → set heard.NotAsked ≡ a → (is_heard h ≡ true → due t a ≡ Some f) → Reached t a → Reached t (set h)
add_heard t a f set heard.NotAsked w e d r = subst (λ (b : Answers). Reached t b) (sym e) r
add_heard t a f set heard.Silent w e d r = grow r f answer.Silent (set heard.Silent) (d refl) (w answer.Silent)
add_heard t a f set (heard.State s) w e d r = grow r f (answer.State s) (set (heard.State s)) (d refl) (w (answer.State s))

step_of : (t : Option Terms) (a : Answers) (f : Field) → (place f == 8) ≡ false → (is_used a f ≡ true → due t (upto (place f) a) ≡ Some f) → Reached t (upto (place f) a) → Reached t (upto (place f + 1) a)
unfolding upto is_used with_answer id_of
step_of t a Device o d r = add_got t (upto 0 a) Device (λ g. record (upto 0 a) { device = g }) a.device (λ x. refl) refl d r
step_of t a Vendor o d r = add_got t (upto 1 a) Vendor (λ g. record (upto 1 a) { ids = slice_set (upto 1 a).ids 0 g }) (id_of a 0) (λ x. refl) refl d r
step_of t a Product o d r = add_got t (upto 2 a) Product (λ g. record (upto 2 a) { ids = slice_set (upto 2 a).ids 1 g }) (id_of a 1) (λ x. refl) refl d r
step_of t a Revision o d r = add_got t (upto 3 a) Revision (λ g. record (upto 3 a) { ids = slice_set (upto 3 a).ids 2 g }) (id_of a 2) (λ x. refl) refl d r
step_of t a Serial o d r = add_got t (upto 4 a) Serial (λ g. record (upto 4 a) { ids = slice_set (upto 4 a).ids 3 g }) (id_of a 3) (λ x. refl) refl d r
step_of t a State o d r = add_heard t (upto 5 a) State (λ g. record (upto 5 a) { heard = g }) a.heard (λ x. refl) refl d r
step_of t a Date o d r = add_got t (upto 6 a) Date (λ g. record (upto 6 a) { date = g }) a.date (λ x. refl) refl d r
step_of t a Time o d r = add_got t (upto 7 a) Time (λ g. record (upto 7 a) { time = g }) a.time (λ x. refl) refl d r
step_of t a Writes o d r = absurd cc
step_of t a Beat o d r = add_heard t (upto 9 a) Beat (λ g. record (upto 9 a) { beat = g }) a.beat (λ x. refl) refl d r

-- ---- the writes
acks : Answers → ℕ → Answers
acks a k = record (upto 8 a) { acked = k }

write_condition : (t : Terms) (a : Answers) (k : ℕ) (g : Field) → nat_le (place g) 8 ≡ true → condition t (acks a k) g ≡ condition t a g
unfolding acks upto condition id_of matches device_agrees asks_identity vendor_agrees product_agrees revision_agrees identity_agrees may_configure must_write comes_to_beat is_dated date_agrees date_differs
write_condition t a k Device le = cc
write_condition t a k _ le = cc

write_complete : (t : Terms) (a : Answers) (k : ℕ) (g : Field) → nat_lt (place g) 8 ≡ true → is_complete t (acks a k) g ≡ is_complete t a g
unfolding acks upto is_complete is_used id_of
write_complete t a k Device lt = cc
write_complete t a k _ lt = cc

write_open : (t : Terms) (a : Answers) (k : ℕ) → k < t.writes → is_complete t (acks a k) Writes ≡ false
unfolding acks upto is_complete
write_open t a k lt = grind (arith, nat_tests)

write_due : (t : Terms) (a : Answers) (k : ℕ) → answers_are_due t a ≡ true → condition t a Writes ≡ true → k < t.writes → next_field t (acks a k) ≡ Some Writes
write_due t a k proper c lt = due_before t a (acks a k) Writes proper c (write_condition t a k Writes refl) (λ g l. (write_condition t a k g (grind (arith, nat_tests)), write_complete t a k g l)) (write_open t a k lt)

acked_more : (t : Terms) (a : Answers) (k : ℕ) → with_answer (acks a k) Writes answer.Acked ≡ Some (acks a (suc k))
unfolding acks with_answer
acked_more t a k = let e : k + 1 ≡ suc k = omega arith in rw e refl

used_by_acks : (a : Answers) → 0 < a.acked → is_used a Writes ≡ true
unfolding is_used
used_by_acks a h = grind (arith, nat_tests)

used_by_refusal : (a : Answers) → is_answered a.refused ≡ true → is_used a Writes ≡ true
unfolding is_used
used_by_refusal a h = grind arith

acks_reached : (t : Terms) (a : Answers) → answers_are_due t a ≡ true → a.acked ≤ t.writes → Reached (Some t) (upto 8 a) → (k : ℕ) → k ≤ a.acked → Reached (Some t) (acks a k)
unfolding acks upto
acks_reached t a proper fit r zero h = r
acks_reached t a proper fit r (suc k) h =
    grow (acks_reached t a proper fit r k (omega arith)) Writes answer.Acked (acks a (suc k))
    (write_due t a k proper (used_has_condition t a proper Writes (used_by_acks a (omega arith))) (omega arith)) (acked_more t a k)

refused_reached : (t : Option Terms) (a : Answers) (k : ℕ) (g : Got) → (is_answered g ≡ true → is_refusal g ≡ true) → (is_answered g ≡ true → due t (acks a k) ≡ Some Writes) → Reached t (acks a k) → Reached t (record (acks a k) { refused = g })
unfolding acks upto with_answer
refused_reached t a k got.NotAsked f d r = r
refused_reached t a k got.Silent f d r = grow r Writes answer.Silent (record (acks a k) { refused = got.Silent }) (d refl) refl
refused_reached t a k (got.Abort c) f d r = grow r Writes (answer.Abort c) (record (acks a k) { refused = got.Abort c }) (d refl) refl
refused_reached t a k (got.Value v) f d r = absurd (false≢true (f refl))

counted_parts : (m n : ℕ) (r g : Bool) → (nat_le m n && (not r || (nat_lt m n && g))) ≡ true → (m ≤ n) × (r ≡ true → g ≡ true) × (r ≡ true → m < n)
counted_parts m n r g h = (grind (arith, nat_tests), λ e. grind arith, λ e. grind (arith, nat_tests))

writes_reached : (t : Terms) (a : Answers) → is_proper (Some t) a ≡ true → Reached (Some t) (upto 8 a) → Reached (Some t) (upto 9 a)
unfolding acks upto writes_are_counted
writes_reached t a proper r =
    let due_ = and_right (writes_are_counted t a) (answers_are_due t a) proper in
    let fit = counted_parts a.acked t.writes (is_answered a.refused) (is_refusal a.refused) (and_left (writes_are_counted t a) (answers_are_due t a) proper) in
    refused_reached (Some t) a a.acked a.refused fit.1 (λ e. write_due t a a.acked due_ (used_has_condition t a due_ Writes (used_by_refusal a e)) (fit.2 e)) (acks_reached t a due_ fit.0 r a.acked (omega arith))

-- ---- the whole record
first : (t : Option Terms) (a : Answers) → Reached t (upto 0 a)
unfolding upto
first t a = start

all_steps : (t : Option Terms) (a : Answers) → ((f : Field) → (place f == 8) ≡ false → is_used a f ≡ true → due t (upto (place f) a) ≡ Some f) → (Reached t (upto 8 a) → Reached t (upto 9 a)) → Reached t (upto 10 a)
all_steps t a d w =
    let r0 : Reached t (upto 0 a) = first t a in
    let r1 : Reached t (upto 1 a) = step_of t a Device refl (d Device refl) r0 in
    let r2 : Reached t (upto 2 a) = step_of t a Vendor refl (d Vendor refl) r1 in
    let r3 : Reached t (upto 3 a) = step_of t a Product refl (d Product refl) r2 in
    let r4 : Reached t (upto 4 a) = step_of t a Revision refl (d Revision refl) r3 in
    let r5 : Reached t (upto 5 a) = step_of t a Serial refl (d Serial refl) r4 in
    let r6 : Reached t (upto 6 a) = step_of t a State refl (d State refl) r5 in
    let r7 : Reached t (upto 7 a) = step_of t a Date refl (d Date refl) r6 in
    let r8 : Reached t (upto 8 a) = step_of t a Time refl (d Time refl) r7 in
    step_of t a Beat refl (d Beat refl) (w r8)

whole : (a : Answers) → length a.ids ≡ 4 → upto 10 a ≡ a
unfolding upto id_of
whole a four = of_four (λ b. upto 10 b ≡ b) (λ b v p r s. refl) a four

no_writes : (a : Answers) → is_used a Writes ≡ false → upto 9 a ≡ upto 8 a
unfolding upto is_used
no_writes a h = go a.acked a.refused h
  where
    go : (n : ℕ) (g : Got) → (not (n == 0) || is_answered g) ≡ false → record (upto 8 a) { acked = n; refused = g } ≡ upto 8 a
    go n got.NotAsked h = let e : n ≡ 0 = grind (arith, nat_tests) in rw e refl
    go n got.Silent h = absurd (grind arith)
    go n (got.Abort c) h = absurd (grind arith)
    go n (got.Value v) h = absurd (grind arith)

pub proper_reached : (t : Option Terms) (a : Answers) → length a.ids ≡ 4 → is_proper t a ≡ true → Reached t a
proper_reached None a four h =
    let unused : (f : Field) → is_used a f ≡ false = λ f. let e = all_at (λ f. not (is_used a f)) h f in grind arith in
    subst (λ (b : Answers). Reached None b) (whole a four)
    (all_steps None a (λ f o u. absurd (false≢true (sym (unused f) ∙ u))) (λ r. subst (λ (b : Answers). Reached None b) (sym (no_writes a (unused Writes))) r))
proper_reached (Some t) a four h =
    subst (λ (b : Answers). Reached (Some t) b) (whole a four)
    (all_steps (Some t) a (λ f o u. due_at t a f (and_right (writes_are_counted t a) (answers_are_due t a) h) o u) (writes_reached t a h))

-- ---- the end
-- the records with a status are those with which the machine ends, with this status
pub end_is_judged : (t : Option Terms) (a : Answers) (s : Status) → length a.ids ≡ 4 → (judged t a ≡ Some s) ↔ IsEnd t a s
end_is_judged t a s four = (there, back)
  where
    there : judged t a ≡ Some s → IsEnd t a s
    there h =
        let j = judged_is t a s h in
        let p = and_left (is_proper t a) (is_finished t a) j.0 in
        record { reached = proper_reached t a four p; ended = move_is t a p ∙ rw (none_from_lawful t a j.0, j.1) refl }

    back : IsEnd t a s → judged t a ≡ Some s
    back e =
        let p = reached_proper t a e.reached in
        let d = ends_due (due t a) (verdict t a) s (sym (move_is t a p) ∙ e.ended) in
        judged_from_lawful t a (lawful_from_due t a p d.0) ∙ ap Some d.1

-- a status that is judged says how the machine ends
pub ends_by : (o : Option Status) (t : Option Terms) (a : Answers) → length a.ids ≡ 4 → o ≡ judged t a → (s : Status) → (o ≡ Some s) ↔ IsEnd t a s
ends_by o t a four e s = subst (λ (r : Option Status). (r ≡ Some s) ↔ IsEnd t a s) (sym e) (end_is_judged t a s four)
