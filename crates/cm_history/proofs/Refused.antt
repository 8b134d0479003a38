-- What a call doesn't change: a refused one nothing, any other one the slaves that it doesn't reach.
use Rattle.std.proofs.Common.{◌≡◌, ℕ, ◌<◌, ◌≤◌, List, refl, ap, sym, ◌∙◌, cond, Bool, true, false, ◌&&◌, ◌||◌, Option, Some, None}
use Rattle.std.specs.Prelude.{◌==◌, nat_lt, unwrap_or}
use Rattle.std.specs.Option.{is_some}
use Rattle.std.proofs.lemmas.Bool.{ltb-true, ltb-false}
use Rattle.cm_nmt.specs.declared.command.Command.{Command}
use Rattle.cm_nmt.specs.declared.state.NmtState.{NmtState}
use Rattle.cm_nmt.specs.Listing.{Listing, is_listed}
use Rattle.cm_history.specs.declared.call.Call.{Call}
use Rattle.cm_history.specs.declared.call.Call.TheVariants as call
use Rattle.cm_history.specs.declared.call.Reply.{Reply}
use Rattle.cm_history.specs.declared.call.Reply.TheVariants as reply
use Rattle.cm_history.specs.declared.call.Orders.{Orders}
use Rattle.cm_history.specs.declared.call.Orders.TheVariants as orders
use Rattle.cm_history.specs.declared.phase.Phase.{Phase}
use Rattle.cm_history.specs.declared.phase.Phase.TheVariants as phase
use Rattle.cm_history.specs.declared.slave.Slave.{Slave}
use Rattle.cm_history.specs.Orders.{to_all, is_all, is_reset_all, is_reset_node}
use Rattle.cm_history.specs.History.{becomes_operational, begun_number, is_good_report, is_granted, is_handled, is_noted, is_reset_value, only_if, reported}
use Rattle.cm_history.specs.Answering.{blank_slave, node_named}
use Rattle.cm_history.specs.Machine.{Machine, open_in, slave_after, slaves_after, phase_then, phase_after, own_after, held_after, after}
use Rattle.cm_history.proofs.Runs.{machine_parts}

-- ---- a slave that isn't reached

-- what is kept of a state that doesn't change, 0 where the slave isn't listed
pub state_stays : (listed : Bool) (s : Slave) → (listed ≡ false → s.state ≡ 0) → cond listed s.state 0 ≡ s.state
state_stays true s unlisted = refl
state_stays false s unlisted = sym (unlisted refl)

-- the call is to all: a start of the network, or a request to 128
abbrev pub names_all : Call → Bool
names_all call.StartNetwork = true
names_all (call.Request t v) = t == 128
names_all _ = false

pub only_none : {A : Type 0} (o : Option A) → only_if o false ≡ None
only_none None = refl
only_none (Some x) = refl

pub and_false : (b : Bool) → (b && false) ≡ false
and_false true = refl
and_false false = refl

one_cases : (all reset : Bool) (c : Command) → is_some (cond all (Some c) None) ≡ false → (cond all (Some c) None ≡ None) × ((all && reset) ≡ false)
one_cases true reset c e = cc
one_cases false reset c e = (refl, refl)

not_all : (o : Orders) → is_some (to_all o) ≡ false → (to_all o ≡ None) × (is_reset_all o ≡ false)
not_all orders.None e = (refl, refl)
not_all orders.ResetUnkept e = (refl, refl)
not_all (orders.One f) e = one_cases (is_all f.target) (is_reset_node f.command) f.command e

-- a call that isn't to all, and whose orders aren't, leaves each slave that it doesn't name
pub unreached : (net : Listing) (c : Call) (r : Reply) (o : Orders) (i : ℕ) (s : Slave) → is_some (to_all o) ≡ false → names_all c ≡ false
    → (node_named c == i) ≡ false → (is_listed net i ≡ false → s.state ≡ 0) → slave_after net c r o i s ≡ s
unreached net call.StartNetwork r o i s one few other unlisted = cc
unreached net (call.Begin j) r o i s one few other unlisted =
    rw ((not_all o one).0, other, only_none (begun_number r), state_stays (is_listed net i) s unlisted) refl
unreached net (call.Report j n a) r o i s one few other unlisted =
    rw ((not_all o one).0, other, only_none, and_false (is_good_report r), and_false (is_some (reported r)), state_stays (is_listed net i) s unlisted) refl
unreached net (call.Signal j b) r o i s one few other unlisted =
    rw ((not_all o one).0, other, only_none, and_false, state_stays (is_listed net i) s unlisted) refl
unreached net (call.Lost j) r o i s one few other unlisted =
    rw ((not_all o one).0, (not_all o one).1, other, and_false (is_noted r || is_handled r), and_false (is_handled r), state_stays (is_listed net i) s unlisted) refl
unreached net (call.Request t v) r o i s one few other unlisted =
    rw ((not_all o one).0, few, other, and_false (is_granted r), and_false (is_reset_value v), and_false (is_granted r), state_stays (is_listed net i) s unlisted) refl
unreached net (call.Read t) r o i s one few other unlisted = rw ((not_all o one).0, state_stays (is_listed net i) s unlisted) refl
unreached net (call.Elapsed ms) r o i s one few other unlisted = rw ((not_all o one).0, state_stays (is_listed net i) s unlisted) refl
unreached net (call.Hold j) r o i s one few other unlisted =
    rw ((not_all o one).0, other, and_false (is_granted r), state_stays (is_listed net i) s unlisted) refl
unreached net (call.Release j) r o i s one few other unlisted = rw ((not_all o one).0, state_stays (is_listed net i) s unlisted) refl

-- ---- a refused call

pub refused_slave : (net : Listing) (c : Call) (n i : ℕ) (s : Slave) → (is_listed net i ≡ false → s.state ≡ 0) → slave_after net c (reply.Refused n) orders.None i s ≡ s
refused_slave net c n i s unlisted = by_call c (state_stays (is_listed net i) s unlisted)
  where
    by_call : (c : Call) → cond (is_listed net i) s.state 0 ≡ s.state → slave_after net c (reply.Refused n) orders.None i s ≡ s
    by_call call.StartNetwork e = rw e refl
    by_call (call.Begin j) e = rw e refl
    by_call (call.Report j m a) e = rw e refl
    by_call (call.Signal j b) e = rw e refl
    by_call (call.Lost j) e = rw e refl
    by_call (call.Request t v) e = rw e refl
    by_call (call.Read t) e = rw e refl
    by_call (call.Elapsed ms) e = rw e refl
    by_call (call.Hold j) e = rw e refl
    by_call (call.Release j) e = rw e refl

pub phase_same : (p : Phase) → phase_then p None ≡ p
phase_same phase.Idle = refl
phase_same phase.Booting = refl
phase_same phase.Ready = refl
phase_same phase.Halted = refl

pub refused_phase : (net : Listing) (c : Call) (n : ℕ) (open_slaves : List ℕ) (p : Phase) → phase_after net c (reply.Refused n) open_slaves p ≡ p
refused_phase net call.StartNetwork n open_slaves p = phase_same p
refused_phase net (call.Begin j) n open_slaves p = phase_same p
refused_phase net (call.Report j m a) n open_slaves p = phase_same p
refused_phase net (call.Signal j b) n open_slaves p = phase_same p
refused_phase net (call.Lost j) n open_slaves p = phase_same p
refused_phase net (call.Request t v) n open_slaves p = phase_same p
refused_phase net (call.Read t) n open_slaves p = phase_same p
refused_phase net (call.Elapsed ms) n open_slaves p = phase_same p
refused_phase net (call.Hold j) n open_slaves p = phase_same p
refused_phase net (call.Release j) n open_slaves p = phase_same p

pub own_still : (net : Listing) (p : Phase) (own : NmtState) → unwrap_or (becomes_operational net p p) own ≡ own
own_still net phase.Idle own = refl
own_still net phase.Booting own = refl
own_still net phase.Ready own = refl
own_still net phase.Halted own = refl

pub own_stays : (net : Listing) (c : Call) (n : ℕ) (p : Phase) (own : NmtState) → own_after net c (reply.Refused n) orders.None p p own ≡ own
own_stays net call.StartNetwork n p own = own_still net p own
own_stays net (call.Begin j) n p own = own_still net p own
own_stays net (call.Report j m a) n p own = own_still net p own
own_stays net (call.Signal j b) n p own = own_still net p own
own_stays net (call.Lost j) n p own = own_still net p own
own_stays net (call.Request t v) n p own = own_still net p own
own_stays net (call.Read t) n p own = own_still net p own
own_stays net (call.Elapsed ms) n p own = own_still net p own
own_stays net (call.Hold j) n p own = own_still net p own
own_stays net (call.Release j) n p own = own_still net p own

-- of whether a slave is held
pub refused_held : (c : Call) (n i : ℕ) (h : Bool) → held_after c (reply.Refused n) i h ≡ h
refused_held call.StartNetwork n i h = refl
refused_held (call.Begin j) n i h = refl
refused_held (call.Report j m a) n i h = refl
refused_held (call.Signal j b) n i h = refl
refused_held (call.Lost j) n i h = refl
refused_held (call.Request t v) n i h = refl
refused_held (call.Read t) n i h = refl
refused_held (call.Elapsed ms) n i h = refl
refused_held (call.Hold j) n i h = refl
refused_held (call.Release j) n i h = refl

node_stays : (net : Listing) (c : Call) (n i : ℕ) (s : Slave) (small : Bool) → nat_lt i 128 ≡ small → (i < 128 → is_listed net i ≡ false → s.state ≡ 0)
    → (128 ≤ i → s ≡ blank_slave) → cond small (slave_after net c (reply.Refused n) orders.None i s) blank_slave ≡ s
node_stays net c n i s true e unlisted blank = refused_slave net c n i s (unlisted (ltb-true i 128 e))
node_stays net c n i s false e unlisted blank = sym (blank (ltb-false i 128 e))

-- a machine in which no unlisted node has a state, and each number above 127 is blank
pub after_refused : (net : Listing) (m : Machine) (c : Call) (n : ℕ) → ((i : ℕ) → i < 128 → is_listed net i ≡ false → (m.slaves i).state ≡ 0)
    → ((i : ℕ) → 128 ≤ i → m.slaves i ≡ blank_slave) → after net m c (reply.Refused n) orders.None ≡ m
after_refused net m c n unlisted blank =
    let left = open_in net (slaves_after net c (reply.Refused n) orders.None m.slaves) in
    let phase : phase_after net c (reply.Refused n) left m.phase ≡ m.phase = refused_phase net c n left m.phase in
    machine_parts phase (ap (λ p. own_after net c (reply.Refused n) orders.None m.phase p m.own) phase ∙ own_stays net c n m.phase m.own) refl
    (λ k i. node_stays net c n i (m.slaves i) (nat_lt i 128) refl (unlisted i) (blank i) k) (λ k i. refused_held c n i (m.held i) k)
