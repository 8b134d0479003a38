-- Where the network becomes operational, every mandatory slave is booted.
use Rattle.std.proofs.Common.{◌≡◌, ℕ, zero, suc, ◌+◌, ◌<◌, ◌≤◌, List, [], ◌∷◌, refl, ap, sym, ◌∙◌, subst, arith, cond, Bool, true, false, not, ◌&&◌, ◌||◌, inl, inr, ◌⊎◌, Option, Some, None}
use Rattle.std.specs.Prelude.{◌==◌, unwrap_or}
use Rattle.std.specs.Option.{option_or}
use Rattle.std.specs.List.{filter, range_with_len}
use Rattle.std.proofs.lemmas.Bool.{cases_Bool, cases_eq, eqb-true, false≢true, and_parts, or_cases, or_right, not-true}
use Rattle.cm_nmt.specs.declared.state.NmtState.{NmtState}
use Rattle.cm_nmt.specs.declared.state.NmtState.TheVariants as state
use Rattle.cm_nmt.specs.declared.command.Command.{Command}
use Rattle.cm_nmt.specs.declared.command.Command.TheVariants as command
use Rattle.cm_nmt.specs.Codes.{state_of_code, command_of_request}
use Rattle.cm_nmt.specs.Bits.{has_bit}
use Rattle.cm_nmt.specs.Listing.{node_ids, Listing, is_mandatory, leaves_operational_to_application, resets_all_on_error, starts_all_at_once, starts_no_slave, stops_all_on_error}
use Rattle.cm_nmt.specs.declared.terms.Terms.{Terms}
use Rattle.cm_nmt.specs.Verdict.{judged}
use Rattle.cm_nmt.specs.declared.answers.Answers.{Answers}
use Rattle.cm_nmt.specs.declared.status.Status.{Status}
use Rattle.cm_nmt.specs.declared.status.Status.TheVariants as status
use Rattle.cm_history.specs.Orders.{is_start_all, is_stop_all, to_every, to_node}
use Rattle.cm_history.specs.Phases.{is_booting, is_halted, is_ready}
use Rattle.cm_history.specs.History.{phase_of, own_of, own_by, open_of, is_booted, boots, boots_by, clears, is_empty, is_good_report, is_fatal, is_start_by, decides_by, becomes_operational}
use Rattle.cm_nmt.specs.Status.{is_good}
use Rattle.cm_history.specs.Answering.{answer_of, seen_of, refusals, first_refusal, refused_or, granted_answer, node_named, report_orders, request_orders, open_less, starts_every, starts_one, is_late}
use Rattle.cm_history.specs.Legal.{IsAnswered, IsLegal}
use Rattle.cm_history.specs.declared.call.Call.{Call}
use Rattle.cm_history.specs.declared.call.Call.TheVariants as call
use Rattle.cm_history.specs.declared.call.Reply.{Reply}
use Rattle.cm_history.specs.declared.call.Reply.TheVariants as reply
use Rattle.cm_history.specs.declared.call.Orders.{Orders}
use Rattle.cm_history.specs.declared.call.Orders.TheVariants as orders
use Rattle.cm_history.specs.declared.call.Entry.{Entry}
use Rattle.cm_history.specs.declared.phase.Phase.{Phase}
use Rattle.cm_history.specs.declared.phase.Phase.TheVariants as phase
use Rattle.cm_history.proofs.OpenSlaves.{open_after_report}
use Rattle.cm_history.specs.Laws.{AtEach, StandsSince, ShowsIdentity, IsAllThere, BecomesOperationalRightly}
use Rattle.cm_history.proofs.Identity.{judged_identity}
use Rattle.cm_history.proofs.Started.{report_cases}
use Rattle.cm_history.specs.Machine.{phase_then}
use Rattle.cm_history.proofs.PhaseSteps.{phase_more}

abbrev entry : ℕ → Call → Reply × Orders → Entry
entry seat c p = record { seat = seat; call = c; reply = p.0; orders = p.1 }

-- the call isn't refused
abbrev IsGranted : Listing → List Entry → Call → Type 0
IsGranted net past c = first_refusal (refusals net (seen_of net past (node_named c)) c) ≡ None

-- the answer to a call that isn't refused
abbrev granted : Listing → List Entry → Call → Reply × Orders
granted net past c = granted_answer net (seen_of net past (node_named c)) c

-- with this answer to the call no mandatory slave is open
abbrev LeavesNone : Listing → List Entry → ℕ → Call → Reply × Orders → Type 0
LeavesNone net past seat c p = is_empty (open_of net (entry seat c p ∷ past)) ≡ true

-- ---- a booted slave showed its identity

-- the entry is a report of slave i that boots it
record IsBootOf (e : Entry) (i : ℕ) : Type 0 where
  number : ℕ
  answers : Answers
  status : Status
  call : e.call ≡ call.Report i number answers
  reply : e.reply ≡ reply.Reported status
  good : is_good status ≡ true

good_report : (r : Reply) → is_good_report r ≡ true → (s : Status) × (r ≡ reply.Reported s) × (is_good s ≡ true)
good_report (reply.Reported s) e = (s, refl, e)
good_report _ e = cc

boot_is : (e : Entry) (i : ℕ) → boots e i ≡ true → IsBootOf e i
boot_is e i h = go e.call refl h
  where
    go : (c : Call) → e.call ≡ c → boots_by c e.reply i ≡ true → IsBootOf e i
    go (call.Report j n a) f k =
        let parts = and_parts (is_good_report e.reply) (j == i) k in
        let r = good_report e.reply parts.0 in
        record {
          number = n;
          answers = a;
          status = r.0;
          call = f ∙ ap (λ x. call.Report x n a) (eqb-true j i parts.1);
          reply = r.1;
          good = r.2;
        }
    go _ f k = cc

same_status : {s s' : Status} → reply.Reported s ≡ reply.Reported s' → s ≡ s'
same_status e = cc

refused_not : {s : Status} {k : ℕ} → reply.Reported s ≡ reply.Refused k → ⊥
refused_not e = cc

-- an answered report that boots its slave shows the identity
proof_of : (net : Listing) (past : List Entry) (e : Entry) (i : ℕ) (t : Terms) → IsAnswered net e past → net.terms i ≡ Some t → has_bit t.assignment.0 2 ≡ true → IsBootOf e i → ShowsIdentity t i e
proof_of net past e i t h at booted b =
    elim (report_cases net past i b.number b.answers e.reply e.orders (h ∙ ap (answer_of net past) b.call)) [
      | inl refused ↦ absurd (refused_not (sym b.reply ∙ refused.1.1))
      | inr served ↦ record {
        number = b.number;
        answers = b.answers;
        status = b.status;
        call = b.call;
        reply = b.reply;
        identity = judged_identity t b.answers served.status booted (ap (λ x. judged x b.answers) (sym at) ∙ served.judged)
            (ap is_good (same_status (sym served.reply ∙ b.reply)) ∙ b.good);
      }
    ]

-- a booted slave that is to be booted showed its identity since it was last cleared
booted_shown : (net : Listing) (h : List Entry) (i : ℕ) (t : Terms) → IsLegal net h → net.terms i ≡ Some t → has_bit t.assignment.0 2 ≡ true → is_booted h i ≡ true → StandsSince (ShowsIdentity t i) i h
booted_shown net [] i t legal at booted b = absurd (false≢true b)
booted_shown net (e ∷ past) i t legal at booted b =
    elim (or_cases (boots e i) (not (clears e i) && is_booted past i) b) [
      | inl now ↦ inl (proof_of net past e i t legal.0 at booted (boot_is e i now))
      | inr before ↦ let parts = and_parts (not (clears e i)) (is_booted past i) before in
          inr (not-true (clears e i) parts.0, booted_shown net past i t legal.1 at booted parts.1)
    ]

-- ---- where no mandatory slave is open, each is there

-- no number passes where the filter leaves none
filter_none : (p : ℕ → Bool) (a n i : ℕ) → filter p (range_with_len a n) ≡ [] → a ≤ i → i < a + n → p i ≡ false
filter_none p a zero i e low high = absurd (omega arith)
filter_none p a (suc n) i e low high =
    let rest = filter p (range_with_len (a + 1) n) in
    elim (cases_Bool (p a)) [
      | inl here ↦ absurd (let k : a ∷ rest ≡ [] = sym (ap (λ b. cond b (a ∷ rest) rest) here) ∙ e in cc)
      | inr there ↦ elim (cases_eq a i) [
        | inl same ↦ ap p (sym same) ∙ there
        | inr other ↦ filter_none p (a + 1) n i (sym (ap (λ b. cond b (a ∷ rest) rest) there) ∙ e) (omega arith) (omega arith)
      ]
    ]

-- no node-ID passes where the filter leaves none
none_of_ids : (p : ℕ → Bool) (i : ℕ) → filter p node_ids ≡ [] → 1 ≤ i → i ≤ 127 → p i ≡ false
unfolding node_ids
none_of_ids p i e low high = filter_none p 1 127 i e low (omega arith)

empty_is : (xs : List ℕ) → is_empty xs ≡ true → xs ≡ []
empty_is [] e = refl
empty_is (x ∷ xs) e = cc

booted_where : (m b : Bool) → m ≡ true → (m && not b) ≡ false → b ≡ true
booted_where m b e f = grind arith

-- each mandatory slave is booted, and so showed its identity
all_there : (net : Listing) (h : List Entry) → IsLegal net h → is_empty (open_of net h) ≡ true → IsAllThere net h
all_there net h legal empty =
    let none : open_of net h ≡ [] = empty_is (open_of net h) empty in
    record {
      none_open = none;
      shown = λ i t node at mandatory booted. booted_shown net h i t legal at booted
          (booted_where (is_mandatory net i) (is_booted h i) mandatory (none_of_ids (λ j. is_mandatory net j && not (is_booted h j)) i none node.0 node.1));
    }

-- ---- as the network becomes ready, none is open

-- Ready is decided only where no slave is open
decides_ready : (net : Listing) (c : Call) (r : Reply) (open_slaves : List ℕ) → decides_by net c r open_slaves ≡ Some phase.Ready → is_empty open_slaves ≡ true
decides_ready net (call.Report i n a) (reply.Reported s) open_slaves e = go (is_fatal net i s) (is_empty open_slaves) e
  where
    go : (f m : Bool) → cond f (Some phase.Halted) (cond m (Some phase.Ready) None) ≡ Some phase.Ready → m ≡ true
    go false true e = refl
    go f m e = cc
decides_ready net c reply.InTime open_slaves e = go (is_empty open_slaves) e
  where
    go : (m : Bool) → cond m (Some phase.Ready) None ≡ Some phase.Ready → m ≡ true
    go true e = refl
    go false e = cc
decides_ready net c r open_slaves e = cc

-- a manager that was booting is ready only by the decision of the entry
ready_decided : (p : Phase) (start : Bool) (d : Option Phase) → is_booting p ≡ true → is_ready (cond start phase.Booting (phase_then p d)) ≡ true → d ≡ Some phase.Ready
ready_decided phase.Booting false (Some phase.Ready) b r = refl
ready_decided phase.Booting false None b r = cc
ready_decided p start d b r = cc

becomes_parts : (b r k : Bool) (s : NmtState) → cond (b && (r && k)) (Some state.Operational) None ≡ Some s → (b ≡ true) × (r ≡ true)
becomes_parts true true k s e = (refl, refl)
becomes_parts b r k s e = cc

-- an entry by which the manager becomes operational by itself leaves none open
becomes_open : (net : Listing) (past : List Entry) (e : Entry) (s : NmtState) → becomes_operational net (phase_of net past) (phase_of net (e ∷ past)) ≡ Some s
    → is_empty (open_of net (e ∷ past)) ≡ true
becomes_open net past e s h =
    let parts = becomes_parts (is_booting (phase_of net past)) (is_ready (phase_of net (e ∷ past))) (not (leaves_operational_to_application net)) s h in
    decides_ready net e.call e.reply (open_of net (e ∷ past))
    (ready_decided (phase_of net past) (is_start_by e.call e.reply) (decides_by net e.call e.reply (open_of net (e ∷ past))) parts.0 (ap is_ready (sym (phase_more net past e)) ∙ parts.1))

-- ---- a request that starts the manager or all slaves finds none open

-- of a request's refusals, the one for an open slave was not met
twelfth : (a b c d e f : Bool) → first_refusal ((3, a) ∷ (10, b) ∷ (11, c) ∷ (4, d) ∷ (12, e) ∷ (13, f) ∷ []) ≡ None → e ≡ false
twelfth false false false false false f h = refl
twelfth a b c d e f h = cc

-- what that refusal says of a start
open_at_five : (five own all m : Bool) → five ≡ true → (own || all) ≡ true → (five && ((all || own) && not m)) ≡ false → m ≡ true
open_at_five five own all m e f h = grind arith

request_finds : (net : Listing) (past : List Entry) (t v : ℕ) → IsGranted net past (call.Request t v)
    → (v == 5) ≡ true → (t == net.own || t == 128) ≡ true → is_empty (open_of net past) ≡ true
request_finds net past t v none five who =
    open_at_five (v == 5) (t == net.own) (t == 128) (is_empty (open_of net past)) five who (twelfth _ _ _ _ _ _ none)

-- a request of the value 5 clears no slave
request_open : (net : Listing) (past : List Entry) (seat t v : ℕ) (o : Orders) → (v == 5) ≡ true → is_empty (open_of net past) ≡ true
    → LeavesNone net past seat (call.Request t v) (reply.Done, o)
request_open net past seat t v o five h =
    let P : ℕ → Type 0 = λ w. LeavesNone net past seat (call.Request t w) (reply.Done, o) in
    subst P (sym (eqb-true v 5 five)) h

-- ---- orders that start all find none open

-- the orders of a report that start all
every_by : (h b v o : Bool) (i : ℕ) → is_start_all (cond h orders.None (cond b orders.None (cond v (to_every command.Start) (cond o (to_node command.Start i) orders.None)))) ≡ true → v ≡ true
every_by false false true o i e = refl
every_by false false false true i e = cc
every_by h b v o i e = cc

every_empty : (b m x : Bool) → (b && (m && x)) ≡ true → m ≡ true
every_empty b m x e = grind arith

lost_starts : (b x y : Bool) (i : ℕ)
    → is_start_all (cond {A = Reply × Orders} b (reply.Handled, cond x (to_every command.Stop) (cond y (to_every command.ResetNode) (to_node command.ResetNode i))) (reply.Noted, orders.None)).1 ≡ true → ⊥
lost_starts true true y i e = cc
lost_starts true false true i e = cc
lost_starts b x y i e = cc

elapsed_starts : (late v : Bool) → is_start_all (cond {A = Reply × Orders} late (reply.TimeUp, orders.None) (reply.InTime, cond v (to_every command.Start) orders.None)).1 ≡ true → v ≡ true
elapsed_starts false true e = refl
elapsed_starts late v e = cc

-- the value 5 asks for a start
start_five : (a b c d e : Bool)
    → cond a (Some command.Stop) (cond b (Some command.Start) (cond c (Some command.ResetNode) (cond d (Some command.ResetComm) (cond e (Some command.EnterPre) None)))) ≡ Some command.Start → b ≡ true
start_five false true c d e h = refl
start_five false false true d e h = cc
start_five false false false true e h = cc
start_five false false false false true h = cc
start_five a b c d e h = cc

request_starts : (own all : Bool) (t : ℕ) (c : Option Command) → is_start_all (request_orders own all t c) ≡ true → (all ≡ true) × (c ≡ Some command.Start)
request_starts false true t (Some command.Start) e = (refl, refl)
request_starts true all t (Some c) e = cc
request_starts false false t (Some c) e = cc
request_starts own all t c e = cc

-- call by call: a report, a request and the time may start all, no other call does
granted_starts : (net : Listing) (past : List Entry) (seat : ℕ) (c : Call) → IsGranted net past c → is_start_all (granted net past c).1 ≡ true → LeavesNone net past seat c (granted net past c)
granted_starts net past seat (call.Report i n a) none h =
    let s = unwrap_or (judged (net.terms i) a) status.A in
    let left = open_less (open_of net past) i s in
    let all = every_by (is_halted (phase_of net past)) (is_booting (phase_of net past) && is_fatal net i s) (starts_every net (phase_of net past) left) (starts_one net (own_of net past) i s) i h in
    ap is_empty (open_after_report net past seat i n a s (report_orders net (phase_of net past) (own_of net past) left i s))
    ∙ every_empty (is_booting (phase_of net past)) (is_empty left) (starts_all_at_once net && (not (leaves_operational_to_application net) && not (starts_no_slave net))) all
granted_starts net past seat (call.Lost i) none h =
    absurd (lost_starts (seen_of net past i).slave.booted (is_mandatory net i && stops_all_on_error net) (is_mandatory net i && resets_all_on_error net) i h)
granted_starts net past seat (call.Request t v) none h =
    let is = request_starts (t == net.own) (t == 128) t (command_of_request v) h in
    let five : (v == 5) ≡ true = start_five (v == 4) (v == 5) (v == 6) (v == 7) (v == 127) is.1 in
    request_open net past seat t v (request_orders (t == net.own) (t == 128) t (command_of_request v)) five
    (request_finds net past t v none five (or_right (t == net.own) (t == 128) is.0))
granted_starts net past seat (call.Elapsed ms) none h =
    every_empty (is_booting (phase_of net past)) (is_empty (open_of net past)) (starts_all_at_once net && (not (leaves_operational_to_application net) && not (starts_no_slave net)))
    (elapsed_starts (is_late net (phase_of net past) (open_of net past) ms) (starts_every net (phase_of net past) (open_of net past)) h)
granted_starts net past seat _ none h = cc

-- ---- a call that makes the manager operational finds none open

stopped_not : (b : Bool) → cond b (Some state.Stopped) None ≡ Some state.Operational → ⊥
stopped_not true e = cc
stopped_not false e = cc

-- the value 5 asks for operational
state_five : (a b c : Bool) → cond a (Some state.Stopped) (cond b (Some state.Operational) (cond c (Some state.PreOperational) None)) ≡ Some state.Operational → b ≡ true
state_five false true c e = refl
state_five false false true e = cc
state_five a b c e = cc

own_parts : (w : Bool) (s : Option NmtState) → cond (true && w) s None ≡ Some state.Operational → (w ≡ true) × (s ≡ Some state.Operational)
own_parts true s e = (refl, e)
own_parts false s e = cc

-- call by call: only a request may make the manager operational
granted_own : (net : Listing) (past : List Entry) (seat : ℕ) (c : Call) → IsGranted net past c → own_by net c (granted net past c).0 (granted net past c).1 ≡ Some state.Operational
    → LeavesNone net past seat c (granted net past c)
granted_own net past seat (call.Lost i) none h = absurd (stopped_not (is_stop_all (granted net past (call.Lost i)).1) h)
granted_own net past seat (call.Request t v) none h =
    let is = own_parts (t == net.own || t == 128) (state_of_code v) h in
    let five : (v == 5) ≡ true = state_five (v == 4) (v == 5) (v == 127) is.1 in
    request_open net past seat t v (request_orders (t == net.own) (t == 128) t (command_of_request v)) five (request_finds net past t v none five is.0)
granted_own net past seat _ none h = cc

refused_own : (net : Listing) (r : ℕ) (c : Call) → own_by net c (reply.Refused r) orders.None ≡ None
refused_own net r call.StartNetwork = refl
refused_own net r _ = refl

none_some : {s : NmtState} → ◌≡◌ {A = Option NmtState} None (Some s) → ⊥
none_some e = cc

-- ---- the law

-- an answer that starts all, or makes the manager operational by its call, leaves none open
answered_leaves : (net : Listing) (past : List Entry) (seat : ℕ) (c : Call) (p : Reply × Orders) → p ≡ answer_of net past c
    → (is_start_all p.1 ≡ true) ⊎ (own_by net c p.0 p.1 ≡ Some state.Operational) → LeavesNone net past seat c p
answered_leaves net past seat c p e = subst P (sym e) (go (first_refusal (refusals net (seen_of net past (node_named c)) c)) refl)
  where
    P : Reply × Orders → Type 0
    P p = (is_start_all p.1 ≡ true) ⊎ (own_by net c p.0 p.1 ≡ Some state.Operational) → LeavesNone net past seat c p

    go : (q : Option ℕ) → first_refusal (refusals net (seen_of net past (node_named c)) c) ≡ q → P (refused_or q (granted net past c))
    go None f = λ w. elim w [ inl starts ↦ granted_starts net past seat c f starts | inr own ↦ granted_own net past seat c f own ]
    go (Some k) f = λ w. elim w [ inl starts ↦ absurd (false≢true starts) | inr own ↦ absurd (none_some (sym (refused_own net k c) ∙ own)) ]

-- a new own state comes from the call, or from the network that becomes ready
own_cases : (o b : Option NmtState) (own : NmtState) → unwrap_or (option_or o b) own ≡ state.Operational → (own ≡ state.Operational → ⊥)
    → (o ≡ Some state.Operational) ⊎ ((s : NmtState) × (b ≡ Some s))
own_cases (Some s) b own e was = inl (ap Some e)
own_cases None (Some s) own e was = inr (s, refl)
own_cases None None own e was = absurd (was e)

becomes_rightly : (net : Listing) (e : Entry) (past : List Entry) → IsLegal net (e ∷ past) → BecomesOperationalRightly net e past
becomes_rightly net e past legal = λ w. all_there net (e ∷ past) legal (elim w [
  | inl goes ↦ elim (own_cases (own_by net e.call e.reply e.orders) (becomes_operational net (phase_of net past) (phase_of net (e ∷ past))) (own_of net past) goes.after goes.before) [
    | inl own ↦ answered_leaves net past e.seat e.call (e.reply, e.orders) legal.0 (inr own)
    | inr ready ↦ becomes_open net past e ready.0 ready.1
  ]
  | inr starts ↦ answered_leaves net past e.seat e.call (e.reply, e.orders) legal.0 (inl starts)
])

-- in a legal history the network becomes operational only with every mandatory slave there
pub network_becomes_operational : (net : Listing) (past : List Entry) → IsLegal net past → AtEach (BecomesOperationalRightly net) past
network_becomes_operational net [] h = tt
network_becomes_operational net (e ∷ past) h = (becomes_rightly net e past h, network_becomes_operational net past h.1)
