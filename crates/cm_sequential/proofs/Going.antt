-- A state that goes on as the machine does.
use Rattle.std.proofs.Common.{◌≡◌, ℕ, ◌+◌, ◌<◌, refl, ap, sym, subst, ◌∙◌, arith, cond, Bool, true, false, not, ◌&&◌, ◌||◌, inl, inr, Option, Some, None}
use Rattle.std.specs.Prelude.{unwrap_or, ◌==◌, ◌%◌}
use Rattle.std.specs.Option.{is_some, option_or}
use Rattle.std.proofs.lemmas.Bool.{cases_lt, eq-eqb, false≢true, le-ltb, lt-ltb, ne_eqb}
use Rattle.cm_nmt.specs.Codes.{command_of_request, state_left, state_of_code}
use Rattle.cm_nmt.specs.declared.command.Command.{Command}
use Rattle.cm_nmt.specs.declared.command.Command.TheVariants as command
use Rattle.cm_nmt.specs.declared.state.NmtState.{NmtState}
use Rattle.cm_nmt.specs.Listing.{Listing, is_listed}
use Rattle.cm_nmt.proofs.Ids.{agree_on_ids}
use Rattle.cm_history.specs.declared.call.Call.{Call}
use Rattle.cm_history.specs.declared.call.Reply.{Reply}
use Rattle.cm_history.specs.declared.call.Orders.{Orders}
use Rattle.cm_history.specs.declared.phase.Phase.{Phase}
use Rattle.cm_history.specs.declared.slave.Slave.{Slave}
use Rattle.cm_history.specs.declared.call.Call.TheVariants as call
use Rattle.cm_history.specs.declared.call.Reply.TheVariants as reply
use Rattle.cm_history.specs.declared.call.Orders.TheVariants as orders
use Rattle.cm_history.specs.Orders.{to_all, to_every, to_node}
use Rattle.cm_history.specs.Answering.{node_named}
use Rattle.cm_history.specs.History.{becomes_operational, only_if}
use Rattle.cm_history.proofs.Runs.{machine_parts}
use Rattle.cm_history.proofs.Refused.{names_all, own_still, phase_same, state_stays}
use Rattle.cm_history.specs.Machine.{begun_after, held_after, of_nodes, open_in, own_after, phase_after, slave_after, slaves_after}
use Rattle.cm_history.specs.NodeSets.{has, members_of}
use Rattle.cm_history.specs.declared.node_set.NodeSet.{NodeSet}
use Rattle.cm_sequential.specs.States.{kept_slave}
use Rattle.cm_sequential.specs.Changes.{at_node, cleared, in_session, in_state, obeying_alone, Goes, IsCounted}
use Rattle.cm_sequential.specs.declared.slaves.SlaveTable.{SlaveTable}
use Rattle.cm_sequential.specs.declared.state.NetworkState.{NetworkState}
use Rattle.cm_sequential.proofs.Changes.{asked_alone, requested, set_named, Unlisted}

-- the open slaves that a table counts are those of the machine
pub open_counted : (net : Listing) (t : SlaveTable) → IsCounted net t → members_of t.unbooted ≡ open_in net (of_nodes (kept_slave t))
open_counted net t counted = agree_on_ids _ _ (λ i small. counted i small ∙ rw (lt-ltb i 128 small) refl)

slave_unlisted : (net : Listing) (c : Call) (r : Reply) (o : Orders) (i : ℕ) (s : Slave) → is_listed net i ≡ false → (slave_after net c r o i s).state ≡ 0
slave_unlisted net c r o i s e = rw e refl

-- a state goes on, where each of its parts does; its table is t
pub goes : (net : Listing) (s s' : NetworkState) (t : SlaveTable) (c : Call) (r : Reply) (o : Orders)
    → s'.own_id ≡ s.own_id → s'.slaves ≡ t → (IsCounted net s.slaves → IsCounted net t)
    → ((i : ℕ) → i < 128 → Unlisted net i (kept_slave s.slaves i) → kept_slave t i ≡ slave_after net c r o i (kept_slave s.slaves i))
    → s'.phase ≡ phase_after net c r (members_of t.unbooted) s.phase
    → s'.own ≡ own_after net c r o s.phase s'.phase s.own
    → s'.begun ≡ begun_after r s.begun
    → ((i : ℕ) → has s'.held i ≡ held_after c r i (has s.held i))
    → Goes net s c r o s'
goes net s s' t c r o same_id table counts moved same_phase same_own same_begun holds = record {
  on = λ fits.
      let counted : IsCounted net t = counts fits.counted in
      let at : (i : ℕ) → i < 128 → kept_slave t i ≡ slave_after net c r o i (kept_slave s.slaves i) = λ i small. moved i small (fits.unlisted i small) in
      let all : of_nodes (kept_slave t) ≡ slaves_after net c r o (of_nodes (kept_slave s.slaves)) = λ k i. node i at k in
      let now : s'.phase ≡ phase_after net c r (open_in net (slaves_after net c r o (of_nodes (kept_slave s.slaves)))) s.phase =
      same_phase ∙ ap (λ l. phase_after net c r l s.phase) (open_counted net t counted ∙ ap (open_in net) all) in
      record {
        step = machine_parts now (same_own ∙ ap (λ p. own_after net c r o s.phase p s.own) now) same_begun (ap (λ (u : SlaveTable). of_nodes (kept_slave u)) table ∙ all) (λ k i. holds i k);
        fits = record {
          own_id = same_id ∙ fits.own_id;
          own_unlisted = fits.own_unlisted;
          nodes = fits.nodes;
          counted = subst (IsCounted net) (sym table) counted;
          unlisted = λ i small none. ap (λ (u : SlaveTable). (kept_slave u i).state) table ∙ ap (λ (k : Slave). k.state) (at i small) ∙ slave_unlisted net c r o i (kept_slave s.slaves i) none;
        };
      };
}
  where
    node : (i : ℕ) → ((i : ℕ) → i < 128 → kept_slave t i ≡ slave_after net c r o i (kept_slave s.slaves i))
        → of_nodes (kept_slave t) i ≡ slaves_after net c r o (of_nodes (kept_slave s.slaves)) i
    node i at = elim (cases_lt i 128) [
      | inl low ↦ rw (lt-ltb i 128 low) (at i low)
      | inr high ↦ rw (le-ltb i 128 high) refl
    ]

-- ---- the manager's own state, where the phase stays

pub own_given : (net : Listing) (p : Phase) (given : Option NmtState) (own : NmtState) → unwrap_or (option_or given (becomes_operational net p p)) own ≡ unwrap_or given own
own_given net p None own = own_still net p own
own_given net p (Some state) own = refl

or_true : (b : Bool) → (b || true) ≡ true
or_true true = refl
or_true false = refl

pub own_asked : (net : Listing) (p : Phase) (v : ℕ) (c : Command) (own : NmtState) → state_of_code v ≡ state_of_code (state_left c)
    → unwrap_or (state_of_code (state_left c)) own ≡ own_after net (call.Request 128 v) reply.Done (to_every c) p p own
own_asked net p v c own same =
    ap (λ (q : Option NmtState). unwrap_or q own) (sym same) ∙ sym (own_given net p (state_of_code v) own)
    ∙ sym (rw (or_true (128 == net.own)) refl)

-- ---- calls that reach the slave that they name alone

one_goes : (net : Listing) (s : NetworkState) (t : SlaveTable) (c : Call) (r : Reply) (o : Orders) (change : Slave → Slave) → is_some (to_all o) ≡ false → names_all c ≡ false
    → is_listed net (node_named c) ≡ true → (IsCounted net s.slaves → IsCounted net t) → ((i : ℕ) → i < 128 → kept_slave t i ≡ at_node (node_named c) change (kept_slave s.slaves) i)
    → ((k : Slave) → change k ≡ slave_after net c r o (node_named c) k)
    → phase_after net c r (members_of t.unbooted) s.phase ≡ s.phase → own_after net c r o s.phase s.phase s.own ≡ s.own → begun_after r s.begun ≡ s.begun
    → ((i : ℕ) (h : Bool) → held_after c r i h ≡ h) → Goes net s c r o (record s { slaves = t })
one_goes net s t c r o change one few listed counted moved named phase own begun holds =
    goes net s (record s { slaves = t }) t c r o refl refl counted
    (λ i small u. moved i small ∙ set_named net c r o change i (kept_slave s.slaves i) one few listed u (named (kept_slave s.slaves i)))
    (sym phase) (sym own) (sym begun) (λ i. sym (holds i (has s.held i)))

began_at : (listed here : Bool) (n : ℕ) (s : Slave) → (listed ≡ false → s.state ≡ 0)
    → cond here (in_session n s) s ≡ record { state = cond listed s.state 0; booted = s.booted; session = option_or (only_if (Some n) here) s.session }
began_at true true n s u = refl
began_at true false n s u = refl
began_at false true n s u = rw (u refl) refl
began_at false false n s u = rw (u refl) refl

pub began : (net : Listing) (s : NetworkState) (t : SlaveTable) (id : ℕ) → ((l : Listing) → IsCounted l s.slaves → IsCounted l t)
    → ((i : ℕ) → i < 128 → kept_slave t i ≡ at_node id (in_session (s.begun + 1)) (kept_slave s.slaves) i)
    → Goes net s (call.Begin id) (reply.Begun (s.begun + 1)) orders.None (record s { begun = s.begun + 1; slaves = t })
began net s t id counted moved =
    goes net s (record s { begun = s.begun + 1; slaves = t }) t (call.Begin id) (reply.Begun (s.begun + 1)) orders.None refl refl (counted net)
    (λ i small u. moved i small ∙ began_at (is_listed net i) (id == i) (s.begun + 1) (kept_slave s.slaves i) u)
    (sym (phase_same s.phase)) (sym (own_still net s.phase s.own)) refl (λ i. refl)

pub noted : (net : Listing) (s : NetworkState) (t : SlaveTable) (id byte : ℕ) → is_listed net id ≡ true → ((l : Listing) → IsCounted l s.slaves → IsCounted l t)
    → ((i : ℕ) → i < 128 → kept_slave t i ≡ at_node id (in_state (byte % 128)) (kept_slave s.slaves) i) → Goes net s (call.Signal id byte) reply.Noted orders.None (record s { slaves = t })
noted net s t id byte listed counted moved =
    one_goes net s t (call.Signal id byte) reply.Noted orders.None (in_state (byte % 128)) refl refl listed (counted net) moved
    (λ k. rw (eq-eqb id id refl, listed) refl) (phase_same s.phase) (own_still net s.phase s.own) refl (λ i h. refl)

pub missed : (net : Listing) (s : NetworkState) (t : SlaveTable) (id : ℕ) → is_listed net id ≡ true → ((l : Listing) → IsCounted l s.slaves → IsCounted l t)
    → ((i : ℕ) → i < 128 → kept_slave t i ≡ at_node id (in_state 1) (kept_slave s.slaves) i) → Goes net s (call.Lost id) reply.Noted orders.None (record s { slaves = t })
missed net s t id listed counted moved =
    one_goes net s t (call.Lost id) reply.Noted orders.None (in_state 1) refl refl listed (counted net) moved
    (λ k. rw (eq-eqb id id refl, listed) refl) (phase_same s.phase) (own_still net s.phase s.own) refl (λ i h. refl)

pub booted_up : (net : Listing) (s : NetworkState) (t : SlaveTable) (id byte v : ℕ) → is_listed net id ≡ true → v ≡ 127 → (IsCounted net s.slaves → IsCounted net t)
    → ((i : ℕ) → i < 128 → kept_slave t i ≡ at_node id (λ k. in_state v (cleared k)) (kept_slave s.slaves) i) → Goes net s (call.Signal id byte) reply.BootAgain orders.None (record s { slaves = t })
booted_up net s t id byte v listed is counted moved =
    one_goes net s t (call.Signal id byte) reply.BootAgain orders.None (λ k. in_state v (cleared k)) refl refl listed counted moved
    (λ k. rw (eq-eqb id id refl, listed, is) refl) (phase_same s.phase) (own_still net s.phase s.own) refl (λ i h. refl)

pub asked : (net : Listing) (s : NetworkState) (t : SlaveTable) (id v : ℕ) (c : Command) → is_listed net id ≡ true → id < 128 → command_of_request v ≡ Some c → (IsCounted net s.slaves → IsCounted net t)
    → ((i : ℕ) → i < 128 → kept_slave t i ≡ at_node id (obeying_alone c) (kept_slave s.slaves) i) → Goes net s (call.Request id v) reply.Done (to_node c id) (record s { slaves = t })
asked net s t id v c listed low asks counted moved = record {
  on = λ fits.
      let is = requested v c asks in
      let few : (id == 128) ≡ false = ne_eqb id 128 (λ e. absurd (omega (arith, e, low))) in
      let apart : (id == net.own) ≡ false = ne_eqb id net.own (λ e. false≢true (sym fits.own_unlisted ∙ ap (is_listed net) (sym e) ∙ listed)) in
      (one_goes net s t (call.Request id v) reply.Done (to_node c id) (obeying_alone c) refl few listed counted moved
      (λ k. asked_alone net id v c k listed is.resets is.left) (phase_same s.phase) (rw (apart, few) (own_still net s.phase s.own)) refl (λ i h. refl)).on fits;
}

-- ---- calls that hold and release

pub held_one : (net : Listing) (s : NetworkState) (t : SlaveTable) (h : NodeSet) (id v : ℕ) → is_listed net id ≡ true → v ≡ 4 → (IsCounted net s.slaves → IsCounted net t)
    → ((i : ℕ) → i < 128 → kept_slave t i ≡ at_node id (λ k. in_state v (cleared k)) (kept_slave s.slaves) i)
    → ((i : ℕ) → has h i ≡ (id == i || has s.held i)) → Goes net s (call.Hold id) reply.Done (to_node command.Stop id) (record s { slaves = t; held = h })
held_one net s t h id v listed is counted moved holds =
    let c = call.Hold id in
    let o = to_node command.Stop id in
    goes net s (record s { slaves = t; held = h }) t c reply.Done o refl refl counted
    (λ i small u. moved i small ∙ set_named net c reply.Done o (λ k. in_state v (cleared k)) i (kept_slave s.slaves i) refl refl listed u
    (rw (eq-eqb id id refl, listed, is) refl))
    (sym (phase_same s.phase)) (sym (own_still net s.phase s.own)) refl (λ i. holds i ∙ now (id == i) (has s.held i))
  where
    now : (b old : Bool) → (b || old) ≡ unwrap_or (cond b (Some true) None) old
    now true old = refl
    now false old = refl

pub released_one : (net : Listing) (s : NetworkState) (h : NodeSet) (id : ℕ) → is_listed net id ≡ true → ((i : ℕ) → has h i ≡ (not (id == i) && has s.held i))
    → Goes net s (call.Release id) reply.Done orders.None (record s { held = h })
released_one net s h id listed holds =
    let c = call.Release id in
    goes net s (record s { held = h }) s.slaves c reply.Done orders.None refl refl (λ counted. counted)
    (λ i small u. rw (state_stays (is_listed net i) (kept_slave s.slaves i) u) refl)
    (sym (phase_same s.phase)) (sym (own_still net s.phase s.own)) refl (λ i. holds i ∙ now (id == i) (has s.held i))
  where
    now : (b old : Bool) → (not b && old) ≡ unwrap_or (cond b (Some false) None) old
    now true old = refl
    now false old = refl
