-- A later field's condition stands on the earlier fields whose conditions hold.
use Rattle.std.proofs.Common.{◌≡◌, ℕ, Bool, true, ◌&&◌, ◌||◌, not, ◌==◌, refl, arith, nat_lt}
use Rattle.cm_nmt.specs.Bits.{has_bit}
use Rattle.cm_nmt.specs.declared.terms.Terms.{Terms}
use Rattle.cm_nmt.specs.declared.state.NmtState.TheVariants.{Stopped, Operational, PreOperational}
use Rattle.cm_nmt.specs.Got.{is_answered, has_value, is_value}
use Rattle.cm_nmt.specs.Heard.{is_heard, is_operational, is_other_state}
use Rattle.cm_nmt.specs.Answers.{id_of}
use Rattle.cm_nmt.specs.Conditions.{asks_identity, comes_to_beat, condition, date_agrees, date_differs, device_agrees, identity_agrees, is_complete, is_used, matches, may_configure, must_write, product_agrees, revision_agrees, vendor_agrees}
use Rattle.cm_nmt.specs.declared.answers.Answers.{Answers}
use Rattle.cm_nmt.specs.declared.got.Got.{Got}
use Rattle.cm_nmt.specs.declared.got.Got.TheVariants as got
use Rattle.cm_nmt.specs.declared.heard.Heard.{Heard}
use Rattle.cm_nmt.specs.declared.heard.Heard.TheVariants as heard
use Rattle.cm_nmt.specs.declared.field.Field.{Field}
use Rattle.cm_nmt.specs.declared.field.Field.TheVariants.{Device, Vendor, Product, Revision, Serial, State, Date, Time, Writes, Beat}
use Rattle.cm_nmt.proofs.Both.{and_left, and_right}

pub has_value_answered : (g : Got) → has_value g ≡ true → is_answered g ≡ true
has_value_answered got.NotAsked e = cc
has_value_answered got.Silent e = refl
has_value_answered (got.Abort c) e = refl
has_value_answered (got.Value v) e = refl

pub is_value_answered : (g : Got) (x : ℕ) → is_value g x ≡ true → is_answered g ≡ true
is_value_answered got.NotAsked x e = cc
is_value_answered got.Silent x e = refl
is_value_answered (got.Abort c) x e = refl
is_value_answered (got.Value v) x e = refl

other_state_heard : (h : Heard) → is_other_state h ≡ true → (is_heard h && not (is_operational h)) ≡ true
other_state_heard heard.NotAsked e = cc
other_state_heard heard.Silent e = cc
other_state_heard (heard.State Stopped) e = refl
other_state_heard (heard.State Operational) e = cc
other_state_heard (heard.State PreOperational) e = refl

operational_heard : (h : Heard) → is_operational h ≡ true → is_heard h ≡ true
operational_heard heard.NotAsked e = cc
operational_heard heard.Silent e = refl
operational_heard (heard.State s) e = refl

-- the place of a field in the order of the questions
abbrev pub place : Field → ℕ
place Device = 0
place Vendor = 1
place Product = 2
place Revision = 3
place Serial = 4
place State = 5
place Date = 6
place Time = 7
place Writes = 8
place Beat = 9

abbrev needs : Terms → Answers → Field → Bool
needs t a Device = has_bit t.assignment.0 2
needs t a Vendor = asks_identity t a
needs t a Product = vendor_agrees t a
needs t a Revision = product_agrees t a
needs t a Serial = revision_agrees t a
needs t a _ = identity_agrees t a

-- every condition but the last stands on bit 2
bit_of : (t : Terms) (a : Answers) (f : Field) → nat_lt (place f) 9 ≡ true → condition t a f ≡ true → has_bit t.assignment.0 2 ≡ true
unfolding condition asks_identity vendor_agrees product_agrees revision_agrees identity_agrees may_configure must_write
bit_of t a Device lt c = c
bit_of t a _ lt c = grind arith

needs_of : (t : Terms) (a : Answers) (g : Field) → has_bit t.assignment.0 2 ≡ true → condition t a g ≡ true → needs t a g ≡ true
unfolding condition may_configure must_write comes_to_beat
needs_of t a Device b c = c
needs_of t a _ b c = grind arith

only : (z v : Bool) → (z || v) ≡ true → not z ≡ true → v ≡ true
only z v m set = grind arith

abbrev next : Field → Field
next Device = Vendor
next Vendor = Product
next Product = Revision
next Revision = Serial
next f = State

chain : (t : Terms) (a : Answers) (f g : Field) → nat_lt (place f) (place g) ≡ true → nat_lt (place f) 5 ≡ true → needs t a g ≡ true → needs t a (next f) ≡ true
unfolding asks_identity vendor_agrees product_agrees revision_agrees identity_agrees
chain t a Device Vendor lt small n = n
chain t a _ _ lt small n = grind arith

own : (t : Terms) (a : Answers) (f : Field) → nat_lt (place f) 5 ≡ true → needs t a (next f) ≡ true → condition t a f ≡ true → is_complete t a f ≡ true
unfolding condition is_complete is_used matches device_agrees asks_identity vendor_agrees product_agrees revision_agrees identity_agrees
own t a Device small n c = has_value_answered a.device (and_left _ _ (and_right _ _ n))
own t a Vendor small n c = is_value_answered (id_of a 0) t.vendor (only _ _ (and_right _ _ n) (and_right _ _ c))
own t a Product small n c = is_value_answered (id_of a 1) t.product (only _ _ (and_right _ _ n) (and_right _ _ c))
own t a Revision small n c = is_value_answered (id_of a 2) t.revision (only _ _ (and_right _ _ n) (and_right _ _ c))
own t a Serial small n c = is_value_answered (id_of a 3) t.serial (only _ _ (and_right _ _ n) (and_right _ _ c))
own t a _ small n c = cc

after_state : (t : Terms) (a : Answers) (g : Field) → nat_lt 5 (place g) ≡ true → has_bit t.assignment.0 2 ≡ true → condition t a State ≡ true → condition t a g ≡ true → is_heard a.heard ≡ true
unfolding condition may_configure must_write comes_to_beat
after_state t a Date lt b c d = grind (arith, other_state_heard a.heard)
after_state t a _ lt b c d = grind (arith, other_state_heard a.heard, operational_heard a.heard)

-- past the configuration, the last question comes after the dates agreed or the writes were made
beat_from : (t : Terms) (a : Answers) → (is_used a State ≡ true → condition t a State ≡ true) → has_bit t.assignment.0 2 ≡ true → may_configure t a ≡ true → comes_to_beat t a ≡ true → (date_agrees t a || (must_write t a && a.acked == t.writes)) ≡ true
unfolding condition is_used may_configure comes_to_beat
beat_from t a due b m h = grind (arith, other_state_heard a.heard, operational_heard a.heard, due)

none_after : (g : Field) → nat_lt 9 (place g) ≡ true → ⊥
none_after Device lt = cc
none_after _ lt = cc

late : (t : Terms) (a : Answers) → ((f : Field) → is_used a f ≡ true → condition t a f ≡ true) → (f g : Field) → nat_lt (place f) (place g) ≡ true → nat_lt 5 (place f) ≡ true → has_bit t.assignment.0 2 ≡ true → condition t a f ≡ true → condition t a g ≡ true → is_complete t a f ≡ true
unfolding condition is_complete is_used must_write date_agrees date_differs
late t a due Date Time lt big b c d = grind (arith, is_value_answered a.date t.date)
late t a due Date Writes lt big b c d = grind (arith, is_value_answered a.date t.date, due Time)
late t a due Date Beat lt big b c d = at (beat_from t a (due State) b (and_left _ _ c) (and_right _ _ d))
  where
    at : (date_agrees t a || (must_write t a && a.acked == t.writes)) ≡ true → is_complete t a Date ≡ true
    at h = grind (arith, is_value_answered a.date t.date, due Time)
late t a due Time Writes lt big b c d = grind (arith, is_value_answered a.time t.time)
late t a due Time Beat lt big b c d = at (beat_from t a (due State) b (and_left _ _ (and_left _ _ c)) (and_right _ _ d))
  where
    at : (date_agrees t a || (must_write t a && a.acked == t.writes)) ≡ true → is_complete t a Time ≡ true
    at h = grind (arith, is_value_answered a.time t.time)
late t a due Writes Beat lt big b c d = at (beat_from t a (due State) b (and_left _ _ c) (and_right _ _ d))
  where
    at : (date_agrees t a || (must_write t a && a.acked == t.writes)) ≡ true → is_complete t a Writes ≡ true
    at h = grind arith
late t a due Beat g lt big b c d = absurd (none_after g lt)
late t a due _ _ lt big b c d = cc

-- where a later field has its condition, an earlier one has its answers
pub stands : (t : Terms) (a : Answers) → ((f : Field) → is_used a f ≡ true → condition t a f ≡ true) → (f g : Field) → nat_lt (place f) (place g) ≡ true → condition t a f ≡ true → condition t a g ≡ true → is_complete t a f ≡ true
unfolding is_complete is_used
stands t a due State g lt c d = after_state t a g lt (bit_of t a State refl c) c d
stands t a due Date g lt c d = late t a due Date g lt refl (bit_of t a Date refl c) c d
stands t a due Time g lt c d = late t a due Time g lt refl (bit_of t a Time refl c) c d
stands t a due Writes g lt c d = late t a due Writes g lt refl (bit_of t a Writes refl c) c d
stands t a due Beat g lt c d = absurd (none_after g lt)
stands t a due f g lt c d = own t a f refl (chain t a f g lt refl (needs_of t a g (bit_of t a f refl c) d)) c
