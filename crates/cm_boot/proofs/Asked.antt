-- What was asked, and what an answer adds to it.
use Rattle.std.proofs.Common.{◌≡◌, ◌∙◌, ℕ, ◌+◌, ◌<◌, Bool, true, false, ◌||◌, not, ◌==◌, List, [], ◌∷◌, ◌++◌, append_assoc, map, take, drop, Option, Some, None, refl, ap, sym, subst, arith, nat_lt, length, option_map, slice_set}
use Rattle.std.specs.List.{flat_map, list_all, slice_get}
use Rattle.std.proofs.lemmas.List.{append-nil, take_more, get_or-set_same, map-append}
use Rattle.std.proofs.lemmas.Option.{slice_get_within, get_or_from_slice_get}
use Rattle.std.proofs.lemmas.Grind.{flat_map-append}
use Rattle.std.proofs.lemmas.Bool.Decides.{nat_tests}
use Rattle.cm_netlist.specs.declared.entry.SlaveEntry.{SlaveEntry}
use Rattle.cm_nmt.specs.declared.terms.Terms.{Terms}
use Rattle.cm_nmt.specs.declared.write.Write.{Write}
use Rattle.cm_nmt.specs.Got.{is_answered}
use Rattle.cm_nmt.specs.Heard.{is_heard}
use Rattle.cm_nmt.specs.Answers.{id_of}
use Rattle.cm_nmt.specs.Fields.{fields}
use Rattle.cm_nmt.specs.Conditions.{is_complete, is_proper, is_used}
use Rattle.cm_boot.specs.Questions.{question}
use Rattle.cm_boot.specs.Progress.{got_of, heard_of, next_field, with_answer, with_write}
use Rattle.cm_boot.specs.Talk.{asked, asked_of, each_of, given, given_state}
use Rattle.cm_nmt.specs.declared.answers.Answers.{Answers}
use Rattle.cm_nmt.specs.declared.got.Got.{Got}
use Rattle.cm_nmt.specs.declared.got.Got.TheVariants as got
use Rattle.cm_nmt.specs.declared.heard.Heard.{Heard}
use Rattle.cm_nmt.specs.declared.heard.Heard.TheVariants as heard
use Rattle.cm_nmt.specs.declared.field.Field.{Field}
use Rattle.cm_nmt.specs.declared.field.Field.TheVariants.{Device, Vendor, Product, Revision, Serial, State, Date, Time, Writes, Beat}
use Rattle.cm_boot.specs.declared.question.Question.{Question}
use Rattle.cm_boot.specs.declared.question.Question.TheVariants as ask
use Rattle.cm_boot.specs.declared.question.Answer.{Answer}
use Rattle.cm_boot.specs.declared.question.Answer.TheVariants as answer
use Rattle.cm_nmt.proofs.Both.{and_left, and_right}
use Rattle.cm_boot.proofs.Order.{place}
use Rattle.cm_boot.proofs.Stays.{IsFieldKept, by_field, of_four, uses_stay}
use Rattle.cm_boot.proofs.Proper.{none_later, due_field}

-- ---- one field
asks : (e : SlaveEntry) (a : Answers) (v p r s : Got) (f g : Field) → (place g == place f) ≡ false → IsFieldKept (λ b. asked_of e b g ≡ asked_of e (record a { ids = v ∷ p ∷ r ∷ s ∷ [] }) g) (record a { ids = v ∷ p ∷ r ∷ s ∷ [] }) f
unfolding asked_of question id_of
asks e a v p r s Device Device ne = λ x. cc
asks e a v p r s Vendor Device ne = λ x. cc
asks e a v p r s Product Device ne = λ x. cc
asks e a v p r s Revision Device ne = λ x. cc
asks e a v p r s Serial Device ne = λ x. cc
asks e a v p r s State Device ne = λ x. cc
asks e a v p r s Date Device ne = λ x. cc
asks e a v p r s Time Device ne = λ x. cc
asks e a v p r s Writes Device ne = (cc, λ x y. cc)
asks e a v p r s Beat Device ne = λ x. cc
asks e a v p r s Writes _ ne = (cc, λ x y. cc)
asks e a v p r s _ _ ne = λ x. cc

-- an answer to a field adds nothing to what was asked for another
asks_stay : (e : SlaveEntry) (a b : Answers) (f g : Field) (x : Answer) → length a.ids ≡ 4 → (place g == place f) ≡ false → with_answer a f x ≡ Some b → asked_of e b g ≡ asked_of e a g
asks_stay e a b f g x four ne h = by_field (λ c. asked_of e c g ≡ asked_of e a g) a b f x (of_four (λ d. IsFieldKept (λ c. asked_of e c g ≡ asked_of e d g) d f) (λ d v p r s. asks e d v p r s f g ne) a four) h

pub none_of : (o : Option Question) (xs : List Answer) → xs ≡ [] → each_of o xs ≡ []
none_of None xs h = refl
none_of (Some q) xs h = cc

none_given : (g : Got) → is_answered g ≡ false → given g ≡ []
none_given got.NotAsked h = refl
none_given got.Silent h = cc
none_given (got.Abort c) h = cc
none_given (got.Value v) h = cc

none_state : (h : Heard) → is_heard h ≡ false → given_state h ≡ []
none_state heard.NotAsked h = refl
none_state heard.Silent h = cc
none_state (heard.State s) h = cc

no_writes : (e : SlaveEntry) (n : ℕ) (g : Got) (o : Option Question) → (not (n == 0) || is_answered g) ≡ false → map (λ w. (ask.Write w, answer.Acked)) (take n e.writes.items) ++ each_of o (given g) ≡ []
no_writes e n g o h =
    let zero_ : n ≡ 0 = grind (arith, nat_tests) in
    let open_ : is_answered g ≡ false = grind (arith, nat_tests) in
    rw (zero_, none_of o (given g) (none_given g open_)) refl

-- a field that isn't answered was not asked for
none_asked : (e : SlaveEntry) (a : Answers) (f : Field) → is_used a f ≡ false → asked_of e a f ≡ []
unfolding asked_of is_used
none_asked e a Device h = none_of (question e a Device) _ (none_given _ h)
none_asked e a Vendor h = none_of (question e a Vendor) _ (none_given _ h)
none_asked e a Product h = none_of (question e a Product) _ (none_given _ h)
none_asked e a Revision h = none_of (question e a Revision) _ (none_given _ h)
none_asked e a Serial h = none_of (question e a Serial) _ (none_given _ h)
none_asked e a State h = none_of (question e a State) _ (none_state _ h)
none_asked e a Date h = none_of (question e a Date) _ (none_given _ h)
none_asked e a Time h = none_of (question e a Time) _ (none_given _ h)
none_asked e a Writes h = no_writes e a.acked a.refused (question e a Writes) h
none_asked e a Beat h = none_of (question e a Beat) _ (none_state _ h)

-- the answer that was recorded is the one that was given
given_back : (x : Answer) (g : Got) → got_of x ≡ Some g → given g ≡ x ∷ []
given_back (answer.Value v) g h = let same : got.Value v ≡ g = cc in rw (← same) refl
given_back answer.Acked g h = cc
given_back (answer.Abort c) g h = let same : got.Abort c ≡ g = cc in rw (← same) refl
given_back answer.Silent g h = let same : got.Silent ≡ g = cc in rw (← same) refl
given_back (answer.State s) g h = cc

state_back : (x : Answer) (g : Heard) → heard_of x ≡ Some g → given_state g ≡ x ∷ []
state_back (answer.Value v) g h = cc
state_back answer.Acked g h = cc
state_back (answer.Abort c) g h = cc
state_back answer.Silent g h = let same : heard.Silent ≡ g = cc in rw (← same) refl
state_back (answer.State s) g h = let same : heard.State s ≡ g = cc in rw (← same) refl

from_map : {X : Type 0} (P : Answers → Type 0) (f : X → Answers) (o : Option X) (b : Answers) → option_map f o ≡ Some b → ((x : X) → o ≡ Some x → P (f x)) → P b
from_map P f None b e h = cc
from_map P f (Some x) b e h = let same : f x ≡ b = cc in subst P same (h x refl)

one : (o : Option Question) (q : Question) (x : Answer) (old new : List Answer) → o ≡ Some q → old ≡ [] → new ≡ x ∷ [] → each_of o new ≡ each_of o old ++ (q, x) ∷ []
one o q x old new i j k = rw (i, j, k) refl

id_set : (a : Answers) (k : ℕ) (g : Got) → k < length a.ids → id_of (record a { ids = slice_set a.ids k g }) k ≡ g
unfolding id_of
id_set a k g h = get_or-set_same a.ids k g got.NotAsked h

one_id : (a : Answers) (k : ℕ) (o : Option Question) (q : Question) (x : Answer) (g : Got) → k < 4 → length a.ids ≡ 4 → o ≡ Some q → is_answered (id_of a k) ≡ false → got_of x ≡ Some g → each_of o (given (id_of (record a { ids = slice_set a.ids k g }) k)) ≡ each_of o (given (id_of a k)) ++ (q, x) ∷ []
one_id a k o q x g lt four i open_ h = one o q x (given (id_of a k)) _ i (none_given _ open_) (ap given (id_set a k g (omega arith)) ∙ given_back x g h)

or_right_false : (x y : Bool) → (x || y) ≡ false → y ≡ false
or_right_false x y h = grind arith

pub write_asked : {W : Type 0} (f : W → Question) (o : Option W) (q : Question) → option_map f o ≡ Some q → (w : W) × (o ≡ Some w) × (q ≡ f w)
write_asked f None q h = cc
write_asked f (Some w) q h = (w, refl, cc)

acked_more : (ws : List Write) (k : ℕ) (w : Write) (o p : Option Question) (g : Got) → slice_get ws k ≡ Some w → is_answered g ≡ false → map (λ w. (ask.Write w, answer.Acked)) (take (k + 1) ws) ++ each_of o (given g) ≡ (map (λ w. (ask.Write w, answer.Acked)) (take k ws) ++ each_of p (given g)) ++ (ask.Write w, answer.Acked) ∷ []
acked_more ws k w o p g at open_ =
    rw (none_of o (given g) (none_given g open_), none_of p (given g) (none_given g open_), take_more ws k w (slice_get_within ws k w at), get_or_from_slice_get ws k w w at) (simp (append-nil, map-append))

one_write : (e : SlaveEntry) (a : Answers) (q : Question) (o p : Option Question) → option_map (λ w. ask.Write w) (slice_get e.writes.items a.acked) ≡ Some q → is_answered a.refused ≡ false → map (λ w. (ask.Write w, answer.Acked)) (take (a.acked + 1) e.writes.items) ++ each_of o (given a.refused) ≡ (map (λ w. (ask.Write w, answer.Acked)) (take a.acked e.writes.items) ++ each_of p (given a.refused)) ++ (q, answer.Acked) ∷ []
one_write e a q o p h open_ =
    let w = write_asked (λ w. ask.Write w) (slice_get e.writes.items a.acked) q h in
    subst (λ (r : Question). map (λ w. (ask.Write w, answer.Acked)) (take (a.acked + 1) e.writes.items) ++ each_of o (given a.refused) ≡ (map (λ w. (ask.Write w, answer.Acked)) (take a.acked e.writes.items) ++ each_of p (given a.refused)) ++ (r, answer.Acked) ∷ []) (sym w.2) (acked_more e.writes.items a.acked w.0 o p a.refused w.1 open_)

refused_write : (X : List (Question × Answer)) (o : Option Question) (q : Question) (x : Answer) (old new : Got) → o ≡ Some q → is_answered old ≡ false → given new ≡ x ∷ [] → X ++ each_of o (given new) ≡ (X ++ each_of o (given old)) ++ (q, x) ∷ []
refused_write X o q x old new i open_ k = rw (i, none_given old open_, k) (simp append-nil)

writes_add : (e : SlaveEntry) (a b : Answers) (q : Question) (x : Answer) → question e a Writes ≡ Some q → is_answered a.refused ≡ false → with_write a x ≡ Some b → asked_of e b Writes ≡ asked_of e a Writes ++ (q, x) ∷ []
unfolding asked_of question
writes_add e a b q answer.Acked i open_ h =
    let same : record a { acked = a.acked + 1 } ≡ b = cc in
    subst (λ c. asked_of e c Writes ≡ asked_of e a Writes ++ (q, answer.Acked) ∷ []) same (one_write e a q (question e (record a { acked = a.acked + 1 }) Writes) (question e a Writes) i open_)
writes_add e a b q (answer.Abort c) i open_ h =
    let same : record a { refused = got.Abort c } ≡ b = cc in
    subst (λ d. asked_of e d Writes ≡ asked_of e a Writes ++ (q, answer.Abort c) ∷ []) same (refused_write _ (question e a Writes) q _ a.refused (got.Abort c) i open_ refl)
writes_add e a b q answer.Silent i open_ h =
    let same : record a { refused = got.Silent } ≡ b = cc in
    subst (λ c. asked_of e c Writes ≡ asked_of e a Writes ++ (q, answer.Silent) ∷ []) same (refused_write _ (question e a Writes) q _ a.refused got.Silent i open_ refl)
writes_add e a b q (answer.Value v) i open_ h = cc
writes_add e a b q (answer.State s) i open_ h = cc

-- an answer to a field that is open adds itself to what was asked for the field
own_add : (t : Terms) (e : SlaveEntry) (a b : Answers) (f : Field) (q : Question) (x : Answer) → length a.ids ≡ 4 → question e a f ≡ Some q → is_complete t a f ≡ false → with_answer a f x ≡ Some b → asked_of e b f ≡ asked_of e a f ++ (q, x) ∷ []
unfolding asked_of is_used is_complete with_answer question
own_add t e a b Device q x four i open_ h = from_map (λ c. asked_of e c Device ≡ asked_of e a Device ++ (q, x) ∷ []) (λ g. record a { device = g }) (got_of x) b h (λ g k. one _ q x (given a.device) _ i (none_given _ open_) (given_back x g k))
own_add t e a b Vendor q x four i open_ h = from_map (λ c. asked_of e c Vendor ≡ asked_of e a Vendor ++ (q, x) ∷ []) (λ g. record a { ids = slice_set a.ids 0 g }) (got_of x) b h (λ g k. one_id a 0 _ q x g (omega arith) four i open_ k)
own_add t e a b Product q x four i open_ h = from_map (λ c. asked_of e c Product ≡ asked_of e a Product ++ (q, x) ∷ []) (λ g. record a { ids = slice_set a.ids 1 g }) (got_of x) b h (λ g k. one_id a 1 _ q x g (omega arith) four i open_ k)
own_add t e a b Revision q x four i open_ h = from_map (λ c. asked_of e c Revision ≡ asked_of e a Revision ++ (q, x) ∷ []) (λ g. record a { ids = slice_set a.ids 2 g }) (got_of x) b h (λ g k. one_id a 2 _ q x g (omega arith) four i open_ k)
own_add t e a b Serial q x four i open_ h = from_map (λ c. asked_of e c Serial ≡ asked_of e a Serial ++ (q, x) ∷ []) (λ g. record a { ids = slice_set a.ids 3 g }) (got_of x) b h (λ g k. one_id a 3 _ q x g (omega arith) four i open_ k)
own_add t e a b State q x four i open_ h = from_map (λ c. asked_of e c State ≡ asked_of e a State ++ (q, x) ∷ []) (λ g. record a { heard = g }) (heard_of x) b h (λ g k. one _ q x (given_state a.heard) _ i (none_state _ open_) (state_back x g k))
own_add t e a b Date q x four i open_ h = from_map (λ c. asked_of e c Date ≡ asked_of e a Date ++ (q, x) ∷ []) (λ g. record a { date = g }) (got_of x) b h (λ g k. one _ q x (given a.date) _ i (none_given _ open_) (given_back x g k))
own_add t e a b Time q x four i open_ h = from_map (λ c. asked_of e c Time ≡ asked_of e a Time ++ (q, x) ∷ []) (λ g. record a { time = g }) (got_of x) b h (λ g k. one _ q x (given a.time) _ i (none_given _ open_) (given_back x g k))
own_add t e a b Writes q x four i open_ h = writes_add e a b q x i (or_right_false _ _ open_) h
own_add t e a b Beat q x four i open_ h = from_map (λ c. asked_of e c Beat ≡ asked_of e a Beat ++ (q, x) ∷ []) (λ g. record a { beat = g }) (heard_of x) b h (λ g k. one _ q x (given_state a.beat) _ i (none_state _ open_) (state_back x g k))

-- ---- the fields in a row
flat_same : {X : Type 0} (h k : Field → List X) (p : Field → Bool) (xs : List Field) → list_all p xs ≡ true → ((g : Field) → p g ≡ true → k g ≡ h g) → flat_map k xs ≡ flat_map h xs
flat_same h k p [] all same = refl
flat_same h k p (x ∷ xs) all same = rw (same x (and_left (p x) (list_all p xs) all), flat_same h k p xs (and_right (p x) (list_all p xs) all) same) refl

flat_none : {X : Type 0} (k : Field → List X) (p : Field → Bool) (xs : List Field) → list_all p xs ≡ true → ((g : Field) → p g ≡ true → k g ≡ []) → flat_map k xs ≡ []
flat_none k p [] all empty = refl
flat_none k p (x ∷ xs) all empty = rw (empty x (and_left (p x) (list_all p xs) all), flat_none k p xs (and_right (p x) (list_all p xs) all) empty) refl

pub before : Field → List Field
before f = take (place f) fields

pub after : Field → List Field
after f = drop (place f + 1) fields

pub parts : (f : Field) → fields ≡ before f ++ (f ∷ after f)
unfolding fields before after
parts Device = refl
parts _ = refl

pub all_before : (f : Field) → list_all (λ g. nat_lt (place g) (place f)) (before f) ≡ true
unfolding fields before
all_before Device = refl
all_before _ = refl

all_after : (f : Field) → list_all (λ g. nat_lt (place f) (place g)) (after f) ≡ true
unfolding fields after
all_after Device = refl
all_after _ = refl

flat_parts : {X : Type 0} (h : Field → List X) (f : Field) → ((g : Field) → nat_lt (place f) (place g) ≡ true → h g ≡ []) → flat_map h fields ≡ flat_map h (before f) ++ h f
flat_parts h f empty =
    ap (flat_map h) (parts f) ∙ (flat_map-append h (before f) (f ∷ after f) ∙ rw (flat_none h (λ g. nat_lt (place f) (place g)) (after f) (all_after f) empty) (simp append-nil))

pub differs_before : (f g : Field) → nat_lt (place g) (place f) ≡ true → (place g == place f) ≡ false
differs_before f g lt = grind (arith, nat_tests)

differs_after : (f g : Field) → nat_lt (place f) (place g) ≡ true → (place g == place f) ≡ false
differs_after f g lt = grind (arith, nat_tests)

-- an answer to the field that is due is asked for last
pub asked_more : (t : Terms) (e : SlaveEntry) (a b : Answers) (f : Field) (q : Question) (x : Answer) → length a.ids ≡ 4 → is_proper (Some t) a ≡ true → next_field t a ≡ Some f → question e a f ≡ Some q → with_answer a f x ≡ Some b → asked (Some e) b ≡ asked (Some e) a ++ (q, x) ∷ []
asked_more t e a b f q x four proper due i h =
    let d = due_field t a f due in
    let unused : (g : Field) → nat_lt (place f) (place g) ≡ true → is_used a g ≡ false = λ g lt. none_later t a f g (and_right _ _ proper) d.0 d.1 lt in
    flat_parts (asked_of e b) f (λ g lt. none_asked e b g (uses_stay a b f g x four (differs_after f g lt) h ∙ unused g lt))
    ∙ (rw (flat_same (asked_of e a) (asked_of e b) (λ g. nat_lt (place g) (place f)) (before f) (all_before f) (λ g lt. asks_stay e a b f g x four (differs_before f g lt) h), own_add t e a b f q x four i d.1 h, flat_parts (asked_of e a) f (λ g lt. none_asked e a g (unused g lt))) (simp append_assoc))
