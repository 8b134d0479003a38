-- Where the report of a boot starts its slave.
use Rattle.std.proofs.Common.{◌≡◌, ℕ, List, [], ◌∷◌, refl, ap, sym, ◌∙◌, cond, Bool, true, false, not, ◌&&◌, ◌||◌, inl, inr, ◌⊎◌, Option, Some, None}
use Rattle.std.specs.Prelude.{◌==◌, unwrap_or, IsFalse}
use Rattle.std.specs.Option.{is_none, option_or, option_map_or}
use Rattle.std.proofs.lemmas.Bool.{cases_Bool, eqb-true, false≢true, not-false}
use Rattle.cm_nmt.specs.declared.command.Command.TheVariants as command
use Rattle.cm_nmt.specs.Bits.{has_bit}
use Rattle.cm_nmt.specs.declared.terms.Terms.{Terms}
use Rattle.cm_nmt.specs.Verdict.{judged}
use Rattle.cm_nmt.specs.declared.answers.Answers.{Answers}
use Rattle.cm_nmt.specs.declared.status.Status.{Status}
use Rattle.cm_nmt.specs.declared.status.Status.TheVariants as status
use Rattle.cm_nmt.specs.Listing.{Listing, is_listed, is_to_be_booted, starts_all_at_once, starts_no_slave}
use Rattle.cm_history.specs.Orders.{is_start_of, to_every, to_node}
use Rattle.cm_history.specs.Phases.{is_booting, is_halted}
use Rattle.cm_history.specs.History.{phase_of, own_of, open_of, session_of, begins_by, begun_number, reports_by, clears, only_if, is_fatal}
use Rattle.cm_history.specs.Answering.{answer_of, seen_of, slave_of, refusals, first_refusal, refused_or, granted_answer, has_session, report_orders, open_less, is_operational, starts_one, starts_every}
use Rattle.cm_nmt.specs.Status.{is_ok}
use Rattle.cm_history.specs.Legal.{IsAnswered, IsLegal}
use Rattle.cm_history.specs.declared.call.Call.{Call}
use Rattle.cm_history.specs.declared.call.Call.TheVariants as call
use Rattle.cm_history.specs.declared.call.Reply.{Reply}
use Rattle.cm_history.specs.declared.call.Reply.TheVariants as reply
use Rattle.cm_history.specs.declared.call.Orders.{Orders}
use Rattle.cm_history.specs.declared.call.Orders.TheVariants as orders
use Rattle.cm_history.specs.declared.call.Entry.{Entry}
use Rattle.cm_history.specs.declared.slave.Slave.{Slave}
use Rattle.cm_history.specs.Laws.{AtEach, StandsSince, IsBeginOf, IsRightlyStarted, StartsRightly}
use Rattle.cm_history.proofs.Identity.{judged_identity}

number_in : (r : Reply) (i j n : ℕ) → only_if (begun_number r) (j == i) ≡ Some n → (j ≡ i) × (r ≡ reply.Begun n)
number_in (reply.Begun m) i j n e = elim (cases_Bool (j == i)) [
  | inl here ↦ (eqb-true j i here, cc (ap (λ b. only_if (Some m) b) here))
  | inr there ↦ absurd (let h : ◌≡◌ {A = Option ℕ} None (Some n) = sym (ap (λ b. only_if (Some m) b) there) ∙ e in cc)
]
number_in _ i j n e = cc

-- a number that begins a session is that of a begin
begin_is : (e : Entry) (i n : ℕ) → begins_by e.call e.reply i ≡ Some n → IsBeginOf i n e
begin_is e i n h = go e.call refl h
  where
    go : (c : Call) → e.call ≡ c → begins_by c e.reply i ≡ Some n → IsBeginOf i n e
    go (call.Begin j) f k = let p = number_in e.reply i j n k in record { call = f ∙ ap call.Begin p.0; reply = p.1 }
    go _ f k = cc

-- a slave's session was begun, and the slave not cleared since
session_begun : (past : List Entry) (i n : ℕ) → session_of past i ≡ Some n → StandsSince (IsBeginOf i n) i past
session_begun [] i n h = absurd (let k : ◌≡◌ {A = Option ℕ} None (Some n) = h in cc)
session_begun (e ∷ past) i n h = go (λ k. session_begun past i n k) (reports_by e.call e.reply i) (clears e i) (begins_by e.call e.reply i) refl refl h
  where
    go : (session_of past i ≡ Some n → StandsSince (IsBeginOf i n) i past) → (r c : Bool) (b : Option ℕ) → clears e i ≡ c → begins_by e.call e.reply i ≡ b → cond (r || c) None (option_or b (session_of past i)) ≡ Some n
        → IsBeginOf i n e ⊎ (IsFalse (clears e i) × StandsSince (IsBeginOf i n) i past)
    go again true c b f g k = cc
    go again false true b f g k = cc
    go again false false (Some m) f g k = inl (begin_is e i n (g ∙ k))
    go again false false None f g k = inr (f, again k)

-- the orders of a report that start its slave
started_by : (h b v o : Bool) (i : ℕ) → is_start_of (cond h orders.None (cond b orders.None (cond v (to_every command.Start) (cond o (to_node command.Start i) orders.None)))) i ≡ true → o ≡ true
started_by false false false true i e = refl
started_by h b v o i e = cc

-- the refusals that a served report did not meet
report_served : (b3 b4 b7 b8 : Bool) → first_refusal ((3, b3) ∷ (4, b4) ∷ (7, b7) ∷ (8, b8) ∷ []) ≡ None → (b4 ≡ false) × (b7 ≡ false) × (b8 ≡ false)
report_served false false false false e = (refl, refl, refl)
report_served b3 b4 b7 b8 e = cc

session_is : (s : Option ℕ) (n : ℕ) → has_session s n ≡ true → s ≡ Some n
session_is None n e = cc
session_is (Some m) n e = ap Some (eqb-true m n e)

ok_is : (s : Status) → is_ok s ≡ true → s ≡ status.Ok
ok_is status.Ok e = refl
ok_is _ e = cc

given_some : (j : Option Status) (d : Status) → is_none j ≡ false → j ≡ Some (unwrap_or j d)
given_some None d e = cc
given_some (Some s) d e = refl

-- what is known of a report that was served
pub record Served (net : Listing) (past : List Entry) (i n : ℕ) (a : Answers) (r : Reply) (o : Orders) : Type 0 where
  pub status : Status
  pub reply : r ≡ reply.Reported status
  pub judged : judged (net.terms i) a ≡ Some status
  pub session : session_of past i ≡ Some n
  pub orders : o ≡ report_orders net (phase_of net past) (own_of net past) (open_less (open_of net past) i status) i status

slave_listed : (net : Listing) (past : List Entry) (i : ℕ) → is_listed net i ≡ true → (seen_of net past i).slave ≡ slave_of net past i
slave_listed net past i e = rw e refl

-- what the refusals and the answer of a served report say
served_is : (net : Listing) (past : List Entry) (i n : ℕ) (a : Answers) (r : Reply) (o : Orders)
    → ◌≡◌ {A = Reply × Orders} (r, o) (granted_answer net (seen_of net past i) (call.Report i n a))
    → first_refusal (refusals net (seen_of net past i) (call.Report i n a)) ≡ None → Served net past i n a r o
served_is net past i n a r o e none =
    let f = report_served _ _ _ _ none in
    record {
      status = unwrap_or (judged (net.terms i) a) status.A;
      reply = ap (λ (p : Reply × Orders). p.0) e;
      judged = given_some (judged (net.terms i) a) status.A f.2;
      session = session_is (session_of past i) n (ap (λ (s : Slave). has_session s.session n) (sym (slave_listed net past i (not-false _ f.0))) ∙ not-false _ f.1);
      orders = ap (λ (p : Reply × Orders). p.1) e;
    }

-- a report was refused, with no orders, or served
pub report_cases : (net : Listing) (past : List Entry) (i n : ℕ) (a : Answers) (r : Reply) (o : Orders)
    → ◌≡◌ {A = Reply × Orders} (r, o) (answer_of net past (call.Report i n a)) → (o ≡ orders.None) × ((k : ℕ) × (r ≡ reply.Refused k)) ⊎ Served net past i n a r o
report_cases net past i n a r o e = go (first_refusal (refusals net (seen_of net past i) (call.Report i n a))) refl e
  where
    go : (q : Option ℕ) → first_refusal (refusals net (seen_of net past i) (call.Report i n a)) ≡ q
        → ◌≡◌ {A = Reply × Orders} (r, o) (refused_or q (granted_answer net (seen_of net past i) (call.Report i n a)))
        → (o ≡ orders.None) × ((k : ℕ) × (r ≡ reply.Refused k)) ⊎ Served net past i n a r o
    go None f g = inr (served_is net past i n a r o g f)
    go (Some k) f g = inl (ap (λ (p : Reply × Orders). p.1) g, (k, ap (λ (p : Reply × Orders). p.0) g))

terms_found : (o : Option Terms) → option_map_or (λ (t : Terms). has_bit t.assignment.0 2) o false ≡ true → (t : Terms) × (o ≡ Some t) × (has_bit t.assignment.0 2 ≡ true)
terms_found None e = cc
terms_found (Some t) e = (t, refl, e)

started_parts : (k b x y : Bool) → (k && (b && (x && y))) ≡ true → (k ≡ true) × (b ≡ true)
started_parts true true x y e = (refl, refl)
started_parts k b x y e = cc

-- a report that was served and starts its slave does so rightly
served_starts : (net : Listing) (past : List Entry) (e : Entry) (i n : ℕ) (a : Answers) → Served net past i n a e.reply e.orders → is_start_of e.orders i ≡ true
    → IsRightlyStarted net i n a e past
served_starts net past e i n a s st =
    let one = started_by (is_halted (phase_of net past)) (is_booting (phase_of net past) && is_fatal net i s.status)
    (starts_every net (phase_of net past) (open_less (open_of net past) i s.status)) (starts_one net (own_of net past) i s.status) i (ap (λ o. is_start_of o i) (sym s.orders) ∙ st) in
    let parts = started_parts (is_ok s.status) (is_to_be_booted net i) (not (starts_no_slave net)) (not (starts_all_at_once net) || is_operational (own_of net past)) one in
    let ok : s.status ≡ status.Ok = ok_is s.status parts.0 in
    let found = terms_found (net.terms i) parts.1 in
    let verdict : judged (Some found.0) a ≡ Some status.Ok = ap (λ t. judged t a) (sym found.1) ∙ s.judged ∙ ap Some ok in
    record {
      terms = found.0;
      listed = found.1;
      to_be_booted = found.2;
      verdict = verdict;
      reply = s.reply ∙ ap reply.Reported ok;
      identity = judged_identity found.0 a status.Ok found.2 verdict refl;
      begun = session_begun past i n s.session;
    }

none_starts : (o : Orders) (i : ℕ) → o ≡ orders.None → is_start_of o i ≡ true → ⊥
none_starts o i e st = false≢true (sym (ap (λ x. is_start_of x i) e) ∙ st)

starts_rightly : (net : Listing) (e : Entry) (past : List Entry) → IsAnswered net e past → StartsRightly net e past
starts_rightly net e past h = λ i n a is st.
    elim (report_cases net past i n a e.reply e.orders (h ∙ ap (answer_of net past) is)) [
      | inl refused ↦ absurd (none_starts e.orders i refused.0 st)
      | inr served ↦ served_starts net past e i n a served st
    ]

-- in a legal history each report that starts its slave does so rightly
pub boots_start : (net : Listing) (past : List Entry) → IsLegal net past → AtEach (StartsRightly net) past
boots_start net [] h = tt
boots_start net (e ∷ past) h = (starts_rightly net e past h.0, boots_start net past h.1)
