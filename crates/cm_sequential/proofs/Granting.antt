-- What the answer to a call is, where it is granted and where it is refused.
use Rattle.std.proofs.Common.{◌≡◌, ℕ, ◌<◌, ◌≤◌, arith, refl, ap, sym, ◌∙◌, true, false, Option, Some, None}
use Rattle.std.proofs.lemmas.Bool.{false≢true, le-ltb, lt-ltb}
use Rattle.std.proofs.lemmas.Grind.{common_steps}
use Rattle.cm_nmt.specs.Codes.{command_of_request}
use Rattle.cm_nmt.specs.NodeId.{IsNodeId}
use Rattle.cm_nmt.specs.declared.command.Command.{Command}
use Rattle.cm_nmt.specs.Listing.{Listing, is_listed}
use Rattle.cm_history.specs.declared.call.Call.{Call}
use Rattle.cm_history.specs.declared.call.Call.TheVariants as call
use Rattle.cm_history.specs.declared.call.Reply.{Reply}
use Rattle.cm_history.specs.declared.call.Reply.TheVariants as reply
use Rattle.cm_history.specs.declared.call.Orders.{Orders}
use Rattle.cm_history.specs.declared.call.Orders.TheVariants as orders
use Rattle.cm_history.specs.declared.slave.Slave.{Slave}
use Rattle.cm_history.specs.Orders.{to_every}
use Rattle.cm_history.specs.History.{is_granted}
use Rattle.cm_history.specs.Answering.{Lookup, blank_slave, first_refusal, granted_answer, node_named, refusals, refused_or}
use Rattle.cm_history.specs.Machine.{answer_in, after, seen_in}
use Rattle.cm_history.proofs.Refused.{after_refused, own_still, phase_same, state_stays}
use Rattle.cm_sequential.specs.States.{kept_slave}
use Rattle.cm_sequential.specs.Changes.{machine, Fits, Goes, GoneOn, IsGranted}
use Rattle.cm_sequential.specs.declared.state.NetworkState.{NetworkState}
use Rattle.cm_sequential.proofs.Going.{goes}

-- ---- replies

granted_reply : (net : Listing) (s : Lookup) (c : Call) → is_granted (granted_answer net s c).0 ≡ true
granted_reply net s call.StartNetwork = refl
granted_reply net s (call.Begin id) = refl
granted_reply net s (call.Report id number a) = refl
granted_reply net s (call.Signal id b) = grind (arith, common_steps)
granted_reply net s (call.Lost id) = grind (arith, common_steps)
granted_reply net s (call.Request t v) = refl
granted_reply net s (call.Read t) = refl
granted_reply net s (call.Elapsed ms) = grind (arith, common_steps)
granted_reply net s (call.Hold id) = refl
granted_reply net s (call.Release id) = refl

-- an answer that isn't a refusal is that of a granted call
unrefused : (q : Option ℕ) (granted : Reply × Orders) (r : Reply) (o : Orders) → (r, o) ≡ refused_or q granted → is_granted r ≡ true
    → (q ≡ None) × ((r, o) ≡ granted)
unrefused q granted r o e g = grind (arith, common_steps, e, g)

pub is_granted_by : (net : Listing) (s : NetworkState) (c : Call) (r : Reply) (o : Orders) → (r, o) ≡ answer_in net (machine s) c → is_granted r ≡ true → IsGranted net s c r o
is_granted_by net s c r o e g =
    let seen = seen_in net (machine s) (node_named c) in
    let parts = unrefused (first_refusal (refusals net seen c)) (granted_answer net seen c) r o e g in
    record { unrefused = parts.0; answer = parts.1 }

-- a refusal has no orders
refused_parts : (net : Listing) (s : Lookup) (c : Call) (q : Option ℕ) (r : Reply) (o : Orders) → (r, o) ≡ refused_or q (granted_answer net s c) → is_granted r ≡ false
    → (n : ℕ) × ◌≡◌ {A = Reply × Orders} (r, o) (reply.Refused n, orders.None)
refused_parts net s c None r o e f = absurd (false≢true (sym f ∙ ap (λ (p : Reply × Orders). is_granted p.0) e ∙ granted_reply net s c))
refused_parts net s c (Some n) r o e f = (n, e)

-- ---- calls that change nothing

above_blank : (s : NetworkState) (i : ℕ) → 128 ≤ i → (machine s).slaves i ≡ blank_slave
above_blank s i high = rw (le-ltb i 128 high) refl

pub below_kept : (s : NetworkState) (i : ℕ) → i < 128 → (machine s).slaves i ≡ kept_slave s.slaves i
below_kept s i low = rw (lt-ltb i 128 low) refl

pub goes_refused : (net : Listing) (s : NetworkState) (c : Call) (r : Reply) (o : Orders) → Fits net s → (r, o) ≡ answer_in net (machine s) c → is_granted r ≡ false → GoneOn net s c r o s
goes_refused net s c r o fits e f =
    let seen = seen_in net (machine s) (node_named c) in
    let facts = refused_parts net seen c (first_refusal (refusals net seen c)) r o e f in
    record {
      step = sym (ap (λ (p : Reply × Orders). after net (machine s) c p.0 p.1) facts.1
          ∙ after_refused net (machine s) c facts.0 (λ i low none. ap (λ (k : Slave). k.state) (below_kept s i low) ∙ fits.unlisted i low none) (above_blank s));
      fits = fits;
    }

pub goes_read : (net : Listing) (s : NetworkState) (t n : ℕ) → Goes net s (call.Read t) (reply.State n) orders.None s
goes_read net s t n =
    goes net s s s.slaves (call.Read t) (reply.State n) orders.None refl refl (λ counted. counted)
    (λ i small u. rw (state_stays (is_listed net i) (kept_slave s.slaves i) u) refl)
    (sym (phase_same s.phase)) (sym (own_still net s.phase s.own)) refl (λ i. refl)

-- ---- time, and requests to all

pub late_orders : (net : Listing) (s : NetworkState) (ms : ℕ) (r : Reply) (o : Orders) → IsGranted net s (call.Elapsed ms) r o → r ≡ reply.TimeUp → o ≡ orders.None
late_orders net s ms r o granted is = grind (arith, common_steps, granted.answer, is)

pub in_time_reply : (net : Listing) (s : NetworkState) (ms : ℕ) (r : Reply) (o : Orders) → IsGranted net s (call.Elapsed ms) r o → (r ≡ reply.TimeUp → ⊥) → r ≡ reply.InTime
in_time_reply net s ms r o granted other = grind (arith, common_steps, granted.answer, other)

-- a request whose target is no node-ID is one to all
pub to_all_target : (net : Listing) (s : NetworkState) (t v : ℕ) (r : Reply) (o : Orders) → IsGranted net s (call.Request t v) r o → (IsNodeId t → ⊥) → t ≡ 128
to_all_target net s t v r o granted other = grind (arith, common_steps, granted.unrefused, other)

pub all_orders : (net : Listing) (s : NetworkState) (v : ℕ) (c : Command) (r : Reply) (o : Orders) → IsGranted net s (call.Request 128 v) r o → (128 ≡ net.own → ⊥) → command_of_request v ≡ Some c → o ≡ to_every c
all_orders net s v c r o granted apart asks = grind (arith, common_steps, granted.answer, apart, asks)
