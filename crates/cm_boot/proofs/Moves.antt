-- The machine's move is what the tables say: it asks the field that is due, and ends with the verdict.
use Rattle.std.proofs.Common.{◌≡◌, Bool, true, false, ◌&&◌, ◌||◌, not, ◌==◌, if◌then◌else◌, List, [], ◌∷◌, Option, Some, None, refl, arith}
use Rattle.std.specs.List.{find}
use Rattle.cm_nmt.specs.Bits.{has_bit}
use Rattle.cm_nmt.specs.declared.terms.Terms.{Terms}
use Rattle.cm_nmt.specs.declared.state.NmtState.TheVariants.{Stopped}
use Rattle.cm_nmt.specs.Got.{is_answered, has_value, is_value}
use Rattle.cm_nmt.specs.Heard.{is_heard, is_silent, is_operational, is_other_state}
use Rattle.cm_nmt.specs.Answers.{id_of}
use Rattle.cm_nmt.specs.Fields.{fields}
use Rattle.cm_nmt.specs.Conditions.{condition, is_used, is_complete, is_proper, answers_are_due, writes_are_counted, matches, device_agrees, asks_identity, vendor_agrees, product_agrees, revision_agrees, identity_agrees, may_configure, must_write, comes_to_beat, is_dated, date_agrees, date_differs}
use Rattle.cm_boot.specs.Progress.{due}
use Rattle.cm_boot.specs.Procedure.{Move, Asks, Ends, move, move_in, is_configurable, is_wanted, ends_with}
use Rattle.cm_nmt.specs.Verdict.{verdict}
use Rattle.cm_nmt.specs.declared.answers.Answers.{Answers}
use Rattle.cm_nmt.specs.declared.field.Field.{Field}
use Rattle.cm_nmt.specs.declared.field.Field.TheVariants.{Device, Vendor, Product, Revision, Serial, State, Date, Time, Writes, Beat}
use Rattle.cm_nmt.specs.declared.heard.Heard.{Heard}
use Rattle.cm_nmt.specs.declared.heard.Heard.TheVariants as heard
use Rattle.cm_nmt.specs.declared.status.Status.{Status}
use Rattle.cm_nmt.specs.declared.status.Status.TheVariants.{Ok, A, B, C, D, E, F, G, J, K, L, M, N, O}
use Rattle.cm_nmt.proofs.Both.{and_right}
use Rattle.cm_boot.proofs.Proper.{used_has_condition}
use Rattle.cm_boot.proofs.Order.{has_value_answered, is_value_answered}

-- a field to ask, or the status to end with
abbrev pub move_to : Option Field → Status → Move
move_to (Some f) s = Asks f
move_to None s = Ends s

-- ---- a walk over the fields
abbrev is_open : Terms → Answers → Field → Bool
is_open t a f = condition t a f && not (is_complete t a f)

abbrev goes_on : Option Status → Bool
goes_on (Some s) = false
goes_on None = true

abbrev status_or : Option Status → Status → Status
status_or (Some s) later = s
status_or None later = later

-- the status with which the machine ends from these fields on, where it asks nothing more
abbrev ending : Terms → Answers → List Field → Status
ending t a [] = if is_operational a.heard then L else Ok
ending t a (f ∷ rest) = status_or (ends_with t a f) (ending t a rest)

-- from these fields on: if the machine comes to them, it does what the tables say; else none of them is due
record Agrees (t : Terms) (a : Answers) (comes : Bool) (rest : List Field) : Type 0 where
  moves : comes ≡ true → move_in t a rest ≡ move_to (find (is_open t a) rest) (ending t a rest)
  none_due : comes ≡ false → find (is_open t a) rest ≡ None

-- of one field: if the machine comes to it, its question is wanted where its condition holds, and past
-- it the machine comes on exactly where its answer doesn't end the boot; else its condition fails, and
-- the machine doesn't come on either
abbrev Keeps : (comes leaves wanted holds full on : Bool) → Type 0
Keeps comes leaves wanted holds full on =
    (comes ≡ true → wanted ≡ holds) × (comes ≡ true → (holds && not full) ≡ false → leaves ≡ on) × (comes ≡ false → holds ≡ false) × (comes ≡ false → leaves ≡ false)

-- a field that keeps the machine to the tables, put in front of fields where it agrees with them
stage : (t : Terms) (a : Answers) (f : Field) {rest : List Field} (comes leaves : Bool) → Keeps comes leaves (is_wanted t a f) (condition t a f) (is_complete t a f) (goes_on (ends_with t a f)) → Agrees t a leaves rest → Agrees t a comes (f ∷ rest)
stage t a f {rest = rest} comes leaves k r = record { moves = λ e. by e (is_open t a f) refl; none_due = λ e. rw (k.2 e) (r.none_due (k.3 e)) }
  where
    at : (e : Option Status) → ends_with t a f ≡ e → leaves ≡ goes_on e → is_wanted t a f ≡ condition t a f → is_open t a f ≡ false → move_in t a (f ∷ rest) ≡ move_to (find (is_open t a) (f ∷ rest)) (ending t a (f ∷ rest))
    at (Some s) e l w o = rw (w, o, e, r.none_due l) refl
    at None e l w o = rw (w, o, e) (r.moves l)

    by : comes ≡ true → (o : Bool) → is_open t a f ≡ o → move_in t a (f ∷ rest) ≡ move_to (find (is_open t a) (f ∷ rest)) (ending t a (f ∷ rest))
    by e true o = rw (k.0 e, o) refl
    by e false o = at (ends_with t a f) refl (k.1 e o) (k.0 e) o

-- ---- the verdict is the status with which the machine ends
or_if : (b : Bool) (s later : Status) → status_or (if b then Some s else None) later ≡ if b then s else later
or_if true s later = refl
or_if false s later = refl

-- a value is read only of a slave that is to be booted
device_or_if : (boots read listed other : Bool) → (read ≡ true → boots ≡ true) → (later : Status) → status_or (if boots && not read then Some B else if boots && listed && other then Some C else None) later ≡ if boots && not read then B else if read && listed && other then C else later
device_or_if true true listed other e later = or_if (listed && other) C later
device_or_if true false listed other e later = refl
device_or_if false true listed other e later = let h = e refl in cc
device_or_if false false listed other e later = refl

state_or_if : (silent guarded boots verified found : Bool) (later : Status) → status_or (if silent then (if guarded then Some F else Some E) else if (boots && not found) && verified then Some G else None) later ≡ if silent && not guarded then E else if silent then F else if boots && verified && not found then G else later
state_or_if true true boots verified found later = refl
state_or_if true false boots verified found later = refl
state_or_if false guarded boots verified found later =
    let e : ((boots && not found) && verified) ≡ (boots && verified && not found) = grind arith in
    rw e (or_if (boots && verified && not found) G later)

verdict_is_ending : (t : Terms) (a : Answers) → (has_value a.device ≡ true → has_bit t.assignment.0 2 ≡ true) → verdict (Some t) a ≡ ending t a fields
unfolding verdict ends_with fields
verdict_is_ending t a e = simp (or_if, device_or_if (has_bit t.assignment.0 2) (has_value a.device) (not (t.device_type == 0)) (not (is_value a.device t.device_type)) e, state_or_if) refl

none_is_a : (a : Answers) → verdict None a ≡ A
unfolding verdict
none_is_a a = refl

-- ---- when an answer doesn't end the boot
none_ends : (b : Bool) (s : Status) → goes_on (if b then Some s else None) ≡ not b
none_ends true s = refl
none_ends false s = refl

device_none_ends : (b c : Bool) → goes_on (if b then Some B else if c then Some C else None) ≡ (not b && not c)
device_none_ends true c = refl
device_none_ends false c = none_ends c C

state_none_ends : (silent guarded c : Bool) → goes_on (if silent then (if guarded then Some F else Some E) else if c then Some G else None) ≡ (not silent && not c)
state_none_ends true true c = refl
state_none_ends true false c = refl
state_none_ends false guarded c = none_ends c G

-- ---- each field, over plain tests
device_keeps : (boots read any same full on : Bool) → on ≡ (not (boots && not read) && not (boots && not any && not same)) → Keeps true (not boots || (boots && (read && (any || same)))) boots boots full on
device_keeps boots read any same full on is = grind arith

identity_keeps : (boots agrees any same asked on : Bool) → on ≡ not (asked && not same) → (agrees ≡ true → boots ≡ true) → (asked ≡ true → (agrees && not any) ≡ true) → Keeps (not boots || agrees) (not boots || (agrees && (any || same))) (boots && not any) (agrees && not any) asked on
identity_keeps boots agrees any same asked on is booted used = grind arith

state_keeps : (boots agrees kept verified on : Bool) (h : Heard) → on ≡ (not (is_silent h) && not ((boots && not (is_operational h)) && verified)) → (agrees ≡ true → boots ≡ true) → (is_heard h ≡ true → (agrees && kept) ≡ true) → Keeps (not boots || agrees) ((not boots || (agrees && is_operational h)) || (agrees && not verified && (not kept || is_other_state h))) (boots && kept) (agrees && kept) (is_heard h) on
state_keeps boots agrees kept verified on heard.NotAsked is booted used = grind arith
state_keeps boots agrees kept verified on (heard.State Stopped) is booted used = grind arith
state_keeps boots agrees kept verified on _ is booted used = grind arith

date_keeps : (skips configurable may dated asked : Bool) → (skips ≡ true → configurable ≡ false) → (may ≡ true → configurable ≡ true) → (asked ≡ true → (may && dated) ≡ true) → Keeps (skips || may) (skips || (may && (not dated || asked))) (configurable && dated) (may && dated) asked true
date_keeps skips configurable may dated asked skipped free used = grind arith

time_keeps : (skips configurable may dated date_asked same_date asked same : Bool) → (skips ≡ true → configurable ≡ false) → (may ≡ true → configurable ≡ true) → (same_date ≡ true → date_asked ≡ true) → (asked ≡ true → (may && dated && same_date) ≡ true) → Keeps (skips || (may && (not dated || date_asked))) (skips || (may && (dated && same_date && same)) || (may && (not dated || (date_asked && not same_date) || (asked && not same)))) (configurable && dated && same_date) (may && dated && same_date) asked true
time_keeps skips configurable may dated date_asked same_date asked same skipped free read used = grind arith

writes_keeps : (boots agrees found may same differs all failed on : Bool) → on ≡ not failed → (may ≡ true → (boots && not found) ≡ true) → (differs ≡ true → same ≡ false) → (failed ≡ true → (may && differs) ≡ true) → Keeps ((not boots || (agrees && found)) || (may && same) || (may && differs)) (not boots || (agrees && found) || (may && same) || ((may && differs) && all && not failed)) ((boots && not found) && not same) (may && differs) (all || failed) on
writes_keeps boots agrees found may same differs all failed on is free other used = grind arith

beat_keeps : (comes unlisted on : Bool) (h : Heard) → on ≡ not (is_silent h) → Keeps comes (comes && on) (not unlisted) (not unlisted && comes) (is_heard h) on
beat_keeps comes unlisted on h is = grind arith

-- a slave that may be configured wasn't found operational
not_operational : (boots agrees kept verified : Bool) (h : Heard) → (agrees ≡ true → boots ≡ true) → (is_heard h ≡ true → (agrees && kept) ≡ true) → (agrees && not verified && (not kept || is_other_state h)) ≡ true → (boots && not (is_operational h)) ≡ true
not_operational boots agrees kept verified heard.NotAsked booted used e = grind arith
not_operational boots agrees kept verified (heard.State Stopped) booted used e = grind arith
not_operational boots agrees kept verified _ booted used e = grind arith

-- ---- the fields together
-- what agrees where the machine comes to this field of a slave that is to be booted
abbrev agreed : Terms → Answers → Field → Bool
agreed t a Vendor = asks_identity t a
agreed t a Product = vendor_agrees t a
agreed t a Revision = product_agrees t a
agreed t a Serial = revision_agrees t a
agreed t a _ = identity_agrees t a

agreed_boots : (t : Terms) (a : Answers) (f : Field) → agreed t a f ≡ true → has_bit t.assignment.0 2 ≡ true
unfolding asks_identity vendor_agrees product_agrees revision_agrees identity_agrees
agreed_boots t a Device e = grind arith
agreed_boots t a _ e = grind arith

-- the slave isn't to be booted, or was found operational: it isn't configured
abbrev skips : Terms → Answers → Bool
skips t a = not (has_bit t.assignment.0 2) || (identity_agrees t a && is_operational a.heard)

-- the machine comes to this field: what the earlier ones must have said
abbrev comes : Terms → Answers → Field → Bool
comes t a Device = true
comes t a Date = skips t a || may_configure t a
comes t a Time = skips t a || (may_configure t a && (not (is_dated t) || is_answered a.date))
comes t a Writes = skips t a || (may_configure t a && date_agrees t a) || must_write t a
comes t a Beat = comes_to_beat t a
comes t a f = not (has_bit t.assignment.0 2) || agreed t a f

-- the machine comes on from this field
abbrev leaves : Terms → Answers → Field → Bool
leaves t a Device = comes t a Vendor
leaves t a Vendor = comes t a Product
leaves t a Product = comes t a Revision
leaves t a Revision = comes t a Serial
leaves t a Serial = comes t a State
leaves t a State = comes t a Date
leaves t a Date = comes t a Time
leaves t a Time = comes t a Writes
leaves t a Writes = comes t a Beat
leaves t a Beat = comes t a Beat && goes_on (ends_with t a Beat)

skips_is : (t : Terms) (a : Answers) → skips t a ≡ true → is_configurable t a ≡ false
skips_is t a e = grind arith

may_configure_is : (t : Terms) (a : Answers) → (is_used a State ≡ true → condition t a State ≡ true) → may_configure t a ≡ true → is_configurable t a ≡ true
unfolding may_configure is_used condition
may_configure_is t a u e = not_operational (has_bit t.assignment.0 2) (identity_agrees t a) (has_bit t.assignment.0 4) (has_bit t.assignment.0 5) a.heard (agreed_boots t a State) u e

date_differs_is : (t : Terms) (a : Answers) → date_differs t a ≡ true → date_agrees t a ≡ false
unfolding date_differs date_agrees
date_differs_is t a e = grind arith

failed_is_used : (a : Answers) → is_answered a.refused ≡ true → is_used a Writes ≡ true
unfolding is_used
failed_is_used a e = grind arith

-- each field keeps the machine to the tables, where an answered field has its condition
keeps : (t : Terms) (a : Answers) → ((f : Field) → is_used a f ≡ true → condition t a f ≡ true) → (f : Field) → Keeps (comes t a f) (leaves t a f) (is_wanted t a f) (condition t a f) (is_complete t a f) (goes_on (ends_with t a f))
unfolding is_wanted condition is_complete is_used ends_with matches device_agrees asks_identity vendor_agrees product_agrees revision_agrees identity_agrees may_configure must_write comes_to_beat date_agrees date_differs
keeps t a u Device = device_keeps (has_bit t.assignment.0 2) (has_value a.device) (t.device_type == 0) (is_value a.device t.device_type) _ _ (device_none_ends _ _)
keeps t a u Vendor = identity_keeps (has_bit t.assignment.0 2) (asks_identity t a) (t.vendor == 0) (is_value (id_of a 0) t.vendor) _ _ (none_ends _ D) (agreed_boots t a Vendor) (u Vendor)
keeps t a u Product = identity_keeps (has_bit t.assignment.0 2) (vendor_agrees t a) (t.product == 0) (is_value (id_of a 1) t.product) _ _ (none_ends _ M) (agreed_boots t a Product) (u Product)
keeps t a u Revision = identity_keeps (has_bit t.assignment.0 2) (product_agrees t a) (t.revision == 0) (is_value (id_of a 2) t.revision) _ _ (none_ends _ N) (agreed_boots t a Revision) (u Revision)
keeps t a u Serial = identity_keeps (has_bit t.assignment.0 2) (revision_agrees t a) (t.serial == 0) (is_value (id_of a 3) t.serial) _ _ (none_ends _ O) (agreed_boots t a Serial) (u Serial)
keeps t a u State = state_keeps (has_bit t.assignment.0 2) (identity_agrees t a) (has_bit t.assignment.0 4) (has_bit t.assignment.0 5) _ a.heard (state_none_ends (is_silent a.heard) (t.heartbeat_ms == 0) _) (agreed_boots t a State) (u State)
keeps t a u Date = date_keeps (skips t a) (is_configurable t a) (may_configure t a) (is_dated t) (is_answered a.date) (skips_is t a) (may_configure_is t a (u State)) (u Date)
keeps t a u Time = time_keeps (skips t a) (is_configurable t a) (may_configure t a) (is_dated t) (is_answered a.date) (is_value a.date t.date) (is_answered a.time) (is_value a.time t.time) (skips_is t a) (may_configure_is t a (u State)) (is_value_answered a.date t.date) (u Time)
keeps t a u Writes = writes_keeps (has_bit t.assignment.0 2) (identity_agrees t a) (is_operational a.heard) (may_configure t a) (date_agrees t a) (date_differs t a) (a.acked == t.writes) (is_answered a.refused) _ (none_ends _ J) (may_configure_is t a (u State)) (date_differs_is t a) (λ e. u Writes (failed_is_used a e))
keeps t a u Beat = beat_keeps (comes_to_beat t a) (t.heartbeat_ms == 0) _ a.beat (none_ends _ K)

device_boots : (t : Terms) (a : Answers) → (is_used a Device ≡ true → condition t a Device ≡ true) → has_value a.device ≡ true → has_bit t.assignment.0 2 ≡ true
unfolding is_used condition
device_boots t a u e = u (has_value_answered a.device e)

last_move : (b : Bool) → (if b then Ends L else Ends Ok) ≡ Ends (if b then L else Ok)
last_move true = refl
last_move false = refl

walk : (t : Terms) (a : Answers) → ((f : Field) → is_used a f ≡ true → condition t a f ≡ true) → Agrees t a true fields
unfolding fields
walk t a u = on Device (on Vendor (on Product (on Revision (on Serial (on State (on Date (on Time (on Writes (on Beat (record { moves = λ e. last_move (is_operational a.heard); none_due = λ e. refl }))))))))))
  where
    on : (f : Field) {rest : List Field} → Agrees t a (leaves t a f) rest → Agrees t a (comes t a f) (f ∷ rest)
    on f r = stage t a f (comes t a f) (leaves t a f) (keeps t a u f) r

-- at proper answers the machine's move is what the tables say: it asks the field that is due, and ends with the verdict where none is
pub move_is : (t : Option Terms) (a : Answers) → is_proper t a ≡ true → move t a ≡ move_to (due t a) (verdict t a)
move_is None a proper = rw (none_is_a a) refl
move_is (Some t) a proper =
    let used : (f : Field) → is_used a f ≡ true → condition t a f ≡ true = used_has_condition t a (and_right (writes_are_counted t a) (answers_are_due t a) proper) in
    rw (verdict_is_ending t a (device_boots t a (used Device))) ((walk t a used).moves refl)
