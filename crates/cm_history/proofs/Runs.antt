-- What a history says goes on, with each entry, as the machine does.
use Rattle.std.proofs.Common.{◌≡◌, ℕ, List, [], ◌∷◌, ◌++◌, refl, ap, sym, ◌∙◌, cond, Bool, true, false, ◌||◌, inl, inr, Option, Some, None}
use Rattle.std.specs.Prelude.{◌==◌, nat_lt, unwrap_or, option_map, option_to_list}
use Rattle.std.specs.List.{list_any}
use Rattle.std.proofs.lemmas.Bool.{cases_Bool, lt-ltb, ltb-false}
use Rattle.cm_nmt.specs.Codes.{state_left}
use Rattle.cm_nmt.specs.declared.command.Command.{Command}
use Rattle.cm_nmt.specs.declared.command.Command.TheVariants as command
use Rattle.cm_nmt.specs.declared.state.NmtState.{NmtState}
use Rattle.cm_nmt.specs.Listing.{Listing, is_listed}
use Rattle.cm_nmt.proofs.Ids.{agree_on_ids}
use Rattle.cm_history.specs.declared.call.Call.{Call}
use Rattle.cm_history.specs.declared.call.Reply.{Reply}
use Rattle.cm_history.specs.declared.call.Orders.{Orders}
use Rattle.cm_history.specs.declared.call.Entry.{Entry}
use Rattle.cm_history.specs.declared.phase.Phase.{Phase}
use Rattle.cm_history.specs.declared.slave.Slave.{Slave}
use Rattle.cm_history.specs.Orders.{to_all, is_reset}
use Rattle.cm_history.specs.History.{is_booted, session_of, last_set, state_under, sets_by, open_of, phase_of, own_of}
use Rattle.cm_history.specs.Answering.{Lookup, blank_slave, slave_of, node_named, answer_from, answer_of}
use Rattle.cm_history.specs.Legal.{IsLegal}
use Rattle.cm_history.specs.Machine.{Machine, of_nodes, open_in, answer_in, obeyed, slave_after, slaves_after, phase_after, own_after, after, step, run, said, ListsNodes, ShowsItsHistory}
use Rattle.cm_history.proofs.PhaseSteps.{phase_more}

-- ---- a state under one command more

any_none : (c : Command) → cond (is_reset c || false) 0 (state_left c) ≡ state_left c
any_none command.Start = refl
any_none command.Stop = refl
any_none command.EnterPre = refl
any_none command.ResetNode = refl
any_none command.ResetComm = refl

any_some : (c : Command) → cond (is_reset c || true) 0 (state_left c) ≡ 0
any_some command.Start = refl
any_some command.Stop = refl
any_some command.EnterPre = refl
any_some command.ResetNode = refl
any_some command.ResetComm = refl

-- no reset among the commands
not_reset : (c : Command) (rest : Bool) (d : Command) → (is_reset c || rest) ≡ false
    → cond (is_reset d || false) 0 (state_left d) ≡ obeyed (Some d) (state_left c)
not_reset command.Start rest d e = any_none d
not_reset command.Stop rest d e = any_none d
not_reset command.EnterPre rest d e = any_none d
not_reset command.ResetNode rest d e = cc
not_reset command.ResetComm rest d e = cc

low_stays : (v : ℕ) (cs : List Command) → (v == 0 || v == 1) ≡ true → state_under v cs ≡ v
low_stays v [] low = refl
low_stays v (c ∷ cs) low = rw low refl

under_more : (v : ℕ) (c : Command) (cs : List Command) → state_under v (c ∷ cs) ≡ obeyed (Some c) (state_under v cs)
under_more v c cs = elim (cases_Bool (v == 0 || v == 1)) [
  | inl low ↦ rw low (sym (rw (low_stays v cs low, low) refl))
  | inr high ↦ rw high (go v c cs high)
]
  where
    go : (v : ℕ) (c : Command) (cs : List Command) → (v == 0 || v == 1) ≡ false
        → cond (list_any is_reset (c ∷ cs)) 0 (state_left c) ≡ obeyed (Some c) (state_under v cs)
    go v c [] high = any_none c ∙ sym (rw high refl)
    go v c (d ∷ cs) high = elim (cases_Bool (list_any is_reset (d ∷ cs))) [
      | inl some ↦ rw (some, high) (any_some c)
      | inr none ↦ rw high (rw none (not_reset d (list_any is_reset cs) c none))
    ]

-- ---- a slave, one entry later

state_cases : (set : Option ℕ) (o : Option Command) (last : ℕ × List Command)
    → state_under
    (unwrap_or {T = ℕ × List Command} (option_map (λ (v : ℕ). (v, option_to_list o)) set) (last.0, option_to_list o ++ last.1)).0
    (unwrap_or {T = ℕ × List Command} (option_map (λ (v : ℕ). (v, option_to_list o)) set) (last.0, option_to_list o ++ last.1)).1
    ≡ obeyed o (unwrap_or set (state_under last.0 last.1))
state_cases None None last = refl
state_cases None (Some c) last = under_more last.0 c last.1
state_cases (Some w) None last = refl
state_cases (Some w) (Some c) last = under_more w c []

-- 0 where it isn't listed, before and after
state_listed : (listed : Bool) (set : Option ℕ) (o : Option Command) (last : ℕ × List Command)
    → cond listed
    (state_under
    (unwrap_or {T = ℕ × List Command} (option_map (λ (v : ℕ). (v, option_to_list o)) set) (last.0, option_to_list o ++ last.1)).0
    (unwrap_or {T = ℕ × List Command} (option_map (λ (v : ℕ). (v, option_to_list o)) set) (last.0, option_to_list o ++ last.1)).1)
    0
    ≡ cond listed (obeyed o (unwrap_or set (cond listed (state_under last.0 last.1) 0))) 0
state_listed true set o last = state_cases set o last
state_listed false set o last = refl

-- of any history, legal or not
pub slave_step : (net : Listing) (past : List Entry) (e : Entry) (i : ℕ) → slave_of net (e ∷ past) i ≡ slave_after net e.call e.reply e.orders i (slave_of net past i)
slave_step net past e i =
    ap (λ n. record { state = n; booted = is_booted (e ∷ past) i; session = session_of (e ∷ past) i })
    (state_listed (is_listed net i) (sets_by e.call e.reply e.orders i) (to_all e.orders) (last_set past i))

node_step : (net : Listing) (past : List Entry) (e : Entry) (i : ℕ) (b : Bool)
    → cond b (slave_of net (e ∷ past) i) blank_slave ≡ cond b (slave_after net e.call e.reply e.orders i (cond b (slave_of net past i) blank_slave)) blank_slave
node_step net past e i true = slave_step net past e i
node_step net past e i false = refl

slaves_step : (net : Listing) (past : List Entry) (e : Entry) → of_nodes (slave_of net (e ∷ past)) ≡ slaves_after net e.call e.reply e.orders (of_nodes (slave_of net past))
slaves_step net past e = λ k i. node_step net past e i (nat_lt i 128) k

-- ---- the machine, one entry later

pub open_said : (net : Listing) (past : List Entry) → open_in net (said net past).slaves ≡ open_of net past
open_said net past = agree_on_ids _ _ (λ i small. rw (lt-ltb i 128 small) refl)

pub machine_parts : {p p' : Phase} {own own' : NmtState} {b b' : ℕ} {s s' : ℕ → Slave} {t t' : ℕ → Bool} → p ≡ p' → own ≡ own' → b ≡ b' → s ≡ s' → t ≡ t'
    → ◌≡◌ {A = Machine} (record { phase = p; own = own; begun = b; slaves = s; held = t }) (record { phase = p'; own = own'; begun = b'; slaves = s'; held = t' })
machine_parts e f g h k = rw (e, f, g, h, k) refl

-- of any history, legal or not
pub machine_step : (net : Listing) (past : List Entry) (e : Entry) → said net (e ∷ past) ≡ after net (said net past) e.call e.reply e.orders
machine_step net past e =
    let slaves = slaves_step net past e in
    let now_open : open_of net (e ∷ past) ≡ open_in net (slaves_after net e.call e.reply e.orders (said net past).slaves) =
    sym (open_said net (e ∷ past)) ∙ ap (open_in net) slaves in
    let phase : phase_of net (e ∷ past) ≡ phase_after net e.call e.reply (open_in net (slaves_after net e.call e.reply e.orders (said net past).slaves)) (phase_of net past) =
    phase_more net past e ∙ ap (λ l. phase_after net e.call e.reply l (phase_of net past)) now_open in
    machine_parts phase (ap (λ p. own_after net e.call e.reply e.orders (phase_of net past) p (own_of net past)) phase) refl slaves refl

-- ---- the answer

slave_seen : (net : Listing) (past : List Entry) (i : ℕ) (listed small : Bool) → (small ≡ false → listed ≡ false)
    → cond listed (cond small (slave_of net past i) blank_slave) blank_slave ≡ cond listed (slave_of net past i) blank_slave
slave_seen net past i false small h = refl
slave_seen net past i true true h = refl
slave_seen net past i true false h = let wrong = h refl in cc

pub seen_parts : {p : Phase} {own : NmtState} {b : ℕ} {l l' : List ℕ} {s s' : Slave} {t : Bool} → l ≡ l' → s ≡ s'
    → ◌≡◌ {A = Lookup} (record { phase = p; own = own; begun = b; open_slaves = l; slave = s; held = t }) (record { phase = p; own = own; begun = b; open_slaves = l'; slave = s'; held = t })
seen_parts h k = rw (h, k) refl

pub answer_said : (net : Listing) (past : List Entry) (c : Call) → ListsNodes net → answer_in net (said net past) c ≡ answer_of net past c
answer_said net past c nodes =
    let i = node_named c in
    ap (λ s. answer_from net s c)
    (seen_parts (open_said net past) (slave_seen net past i (is_listed net i) (nat_lt i 128) (λ large. nodes i (ltb-false i 128 large))))

-- ---- the run

pub run_said : (net : Listing) (past : List Entry) → ListsNodes net → IsLegal net past → run net past ≡ said net past
run_said net [] nodes legal = machine_parts refl refl refl (λ k i. idle_node (is_listed net i) (nat_lt i 128) k) refl
  where
    idle_node : (listed small : Bool) → cond small blank_slave blank_slave ≡ cond small (record { state = cond listed 0 0; booted = false; session = None }) blank_slave
    idle_node true small = refl
    idle_node false small = refl
run_said net (e ∷ past) nodes legal =
    let answered : (e.reply, e.orders) ≡ answer_in net (said net past) e.call = legal.0 ∙ sym (answer_said net past e.call nodes) in
    ap (λ m. step net m e.call) (run_said net past nodes legal.1)
    ∙ ap (λ (p : Reply × Orders). after net (said net past) e.call p.0 p.1) (sym answered)
    ∙ sym (machine_step net past e)

pub shows_its_history : (net : Listing) (past : List Entry) → ListsNodes net → IsLegal net past → ShowsItsHistory net past
shows_its_history net past nodes legal =
    let same : run net past ≡ said net past = run_said net past nodes legal in
    record {
      phase = ap (λ (m : Machine). m.phase) same;
      own = ap (λ (m : Machine). m.own) same;
      begun = ap (λ (m : Machine). m.begun) same;
      slaves = λ i small. ap (λ (m : Machine). m.slaves i) same ∙ rw (lt-ltb i 128 small) refl;
      held = λ i. ap (λ (m : Machine). m.held i) same;
      open_slaves = ap (λ (m : Machine). open_in net m.slaves) same ∙ open_said net past;
      answers = λ c. ap (λ m. answer_in net m c) same ∙ answer_said net past c nodes;
    }
