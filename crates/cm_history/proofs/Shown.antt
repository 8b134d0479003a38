-- What a read is answered with.
use Rattle.std.proofs.Common.{◌≡◌, ℕ, List, refl, ap, cond, Bool, true, false, Option, Some, None}
use Rattle.std.specs.Prelude.{IsTrue, ◌==◌}
use Rattle.cm_nmt.specs.Codes.{state_code}
use Rattle.cm_nmt.specs.Listing.{Listing, is_listed}
use Rattle.cm_history.specs.History.{is_granted, own_of, shown, state_of}
use Rattle.cm_history.specs.Answering.{blank_slave, first_refusal, granted_answer, refusals, refused_or, seen_of, slave_of}
use Rattle.cm_history.specs.declared.call.Call.TheVariants as call
use Rattle.cm_history.specs.declared.call.Reply.{Reply}
use Rattle.cm_history.specs.declared.call.Reply.TheVariants as reply
use Rattle.cm_history.specs.declared.call.Orders.{Orders}
use Rattle.cm_history.specs.declared.call.Entry.{Entry}
use Rattle.cm_history.specs.Laws.{ReadsShow}

granted_shows : (q : Option ℕ) (granted : Reply × Orders) (n : ℕ) → granted.0 ≡ reply.State n → IsTrue (is_granted (refused_or q granted).0) → (refused_or q granted).0 ≡ reply.State n
granted_shows None granted n e g = e
granted_shows (Some r) granted n e g = cc

state_kept : (net : Listing) (past : List Entry) (t : ℕ) → (cond (is_listed net t) (slave_of net past t) blank_slave).state ≡ state_of net past t
state_kept net past t = by (is_listed net t) refl
  where
    by : (b : Bool) → is_listed net t ≡ b → (cond b (slave_of net past t) blank_slave).state ≡ state_of net past t
    by true e = refl
    by false e = rw e refl

pub reads_show : (net : Listing) (past : List Entry) (t : ℕ) → ReadsShow net past t
reads_show net past t =
    granted_shows (first_refusal (refusals net (seen_of net past t) (call.Read t))) (granted_answer net (seen_of net past t) (call.Read t)) (shown net past t)
    (ap (λ (n : ℕ). reply.State (cond (t == net.own) (state_code (own_of net past)) n)) (state_kept net past t))
