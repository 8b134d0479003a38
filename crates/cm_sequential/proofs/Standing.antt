-- A manager that stands for a history answers as the history does, and stands, after a call, for the history with it.
use Rattle.std.proofs.Common.{◌≡◌, ℕ, ◌<◌, ◌≤◌, List, ◌∷◌, arith, refl, ap, sym, subst, ◌∙◌, cond, Bool, true, false, not, ◌&&◌}
use Rattle.std.specs.Prelude.{nat_lt, ◌+◌}
use Rattle.std.specs.Option.{is_some}
use Rattle.std.proofs.lemmas.Bool.{lt-ltb, ltb-true}
use Rattle.cm_netlist.specs.Network.{Network, listing}
use Rattle.cm_nmt.specs.Listing.{Listing, is_mandatory}
use Rattle.cm_nmt.proofs.Ids.{agree_on_ids}
use Rattle.cm_history.specs.declared.call.Call.{Call}
use Rattle.cm_history.specs.declared.call.Reply.{Reply}
use Rattle.cm_history.specs.declared.call.Orders.{Orders}
use Rattle.cm_history.specs.declared.call.Entry.{Entry}
use Rattle.cm_history.specs.declared.slave.Slave.{Slave}
use Rattle.cm_history.specs.History.{begun_number, open_of}
use Rattle.cm_history.specs.Answering.{answer_of, blank_slave, slave_of}
use Rattle.cm_history.specs.Machine.{Machine, after, answer_in, begun_after, said}
use Rattle.cm_history.proofs.Runs.{answer_said, machine_parts, machine_step}
use Rattle.cm_sequential.specs.States.{kept_slave, Shows}
use Rattle.cm_sequential.specs.Standing.{IsAnswer, listing_in, still_open, Stands}
use Rattle.cm_sequential.specs.Changes.{machine, GoneOn}
use Rattle.cm_history.specs.NodeSets.{members_of}
use Rattle.cm_sequential.proofs.Going.{open_counted}
use Rattle.cm_sequential.proofs.Listings.{lists_nodes}
use Rattle.cm_sequential.specs.declared.manager.Manager.{Manager}
use Rattle.cm_sequential.specs.declared.state.NetworkState.{NetworkState}

-- a state that shows a history is what the history says
node_said : (s : NetworkState) (net : Listing) (past : List Entry) (i : ℕ) (small : Bool) → nat_lt i 128 ≡ small → Shows s net past
    → cond small (kept_slave s.slaves i) blank_slave ≡ cond small (slave_of net past i) blank_slave
node_said s net past i false e sh = refl
node_said s net past i true e sh =
    let low : i < 128 = ltb-true i 128 e in λ k. record { state = sh.state i low k; booted = sh.booted i low k; session = sh.session i low k }

pub shown_said : (s : NetworkState) (net : Listing) (past : List Entry) → Shows s net past → machine s ≡ said net past
shown_said s net past sh = machine_parts sh.phase sh.own sh.begun (λ k i. node_said s net past i (nat_lt i 128) refl sh k) (λ k i. sh.held i k)

-- and the other way
said_at : (s : NetworkState) (net : Listing) (past : List Entry) (i : ℕ) → i < 128 → machine s ≡ said net past → kept_slave s.slaves i ≡ slave_of net past i
said_at s net past i low e = sym (rw (lt-ltb i 128 low) refl) ∙ ap (λ (m : Machine). m.slaves i) e ∙ rw (lt-ltb i 128 low) refl

pub said_shown : (s : NetworkState) (net : Listing) (past : List Entry) → s.own_id ≡ net.own → machine s ≡ said net past → Shows s net past
said_shown s net past own_id e = record {
  own_id = own_id;
  phase = ap (λ (m : Machine). m.phase) e;
  own = ap (λ (m : Machine). m.own) e;
  begun = ap (λ (m : Machine). m.begun) e;
  state = λ i low. ap (λ (k : Slave). k.state) (said_at s net past i low e);
  booted = λ i low. ap (λ (k : Slave). k.booted) (said_at s net past i low e);
  session = λ i low. ap (λ (k : Slave). k.session) (said_at s net past i low e);
  held = λ i. ap (λ (m : Machine). m.held i) e;
}

pub stands_answer : (m : Manager) (net : Network) (past : List Entry) (c : Call) (r : Reply) (o : Orders) → Stands m net past → IsAnswer m c r o
    → (r, o) ≡ answer_of (listing net) past c
stands_answer m net past c r o st is =
    is
    ∙ ap (λ l. answer_in l (machine m.state) c) st.same_listing
    ∙ ap (λ k. answer_in (listing net) k c) (shown_said m.state (listing net) past st.same_state)
    ∙ answer_said (listing net) past c (lists_nodes net st.network)

-- the state after an answered call shows the history with that entry
pub shows_next : (net : Listing) (s s' : NetworkState) (past : List Entry) (e : Entry) → Shows s net past → GoneOn net s e.call e.reply e.orders s' → Shows s' net (e ∷ past)
shows_next net s s' past e sh goes =
    said_shown s' net (e ∷ past) goes.fits.own_id
    (goes.step ∙ ap (λ m. after net m e.call e.reply e.orders) (shown_said s net past sh) ∙ sym (machine_step net past e))

pub stands_next : (m : Manager) (s' : NetworkState) (net : Network) (past : List Entry) (e : Entry) → Stands m net past
    → GoneOn (listing_in m) m.state e.call e.reply e.orders s' → Shows s' (listing net) (e ∷ past)
stands_next m s' net past e st goes =
    shows_next (listing net) m.state s' past e st.same_state (subst (λ (l : Listing). GoneOn l m.state e.call e.reply e.orders s') st.same_listing goes)

-- a manager that stands for what was before and a call with these answers stands for it and an entry that has them
pub stands_by : (m : Manager) (net : Network) (past : List Entry) (e : Entry) (reply : Reply) (orders : Orders)
    → ◌≡◌ {A = Reply × Orders} (reply, orders) (e.reply, e.orders)
    → Stands m net (record { seat = e.seat; call = e.call; reply = reply; orders = orders } ∷ past) → Stands m net (e ∷ past)
stands_by m net past e reply orders same stands =
    subst (λ (p : Reply × Orders). Stands m net (record { seat = e.seat; call = e.call; reply = p.0; orders = p.1 } ∷ past)) same stands

begun_most : (r : Reply) (n : ℕ) → begun_after r n ≤ n + 1
begun_most r n = elim (is_some (begun_number r)) as (λ b. cond b (n + 1) n ≤ n + 1) [ true ↦ omega arith | false ↦ omega arith ]

pub begun_few : (net : Listing) (s s' : NetworkState) (c : Call) (r : Reply) (o : Orders) → GoneOn net s c r o s' → s'.begun ≤ s.begun + 1
begun_few net s s' c r o goes =
    let same : s'.begun ≡ begun_after r s.begun = ap (λ (m : Machine). m.begun) goes.step in
    omega (arith, same, begun_most r s.begun)

-- the open slaves that the state counts are those of the manager
pub open_kept : (m : Manager) → members_of m.state.slaves.unbooted ≡ still_open m
open_kept m = open_counted (listing_in m) m.state.slaves m.fits.counted

pub open_shown : (m : Manager) (net : Network) (past : List Entry) → Stands m net past → members_of m.state.slaves.unbooted ≡ open_of (listing net) past
open_shown m net past st =
    agree_on_ids _ _ (λ i small. m.fits.counted i small
    ∙ ap (λ (l : Listing). is_mandatory l i && not (kept_slave m.state.slaves i).booted) st.same_listing
    ∙ ap (λ (b : Bool). is_mandatory (listing net) i && not b) (st.same_state.booted i small))
