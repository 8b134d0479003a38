-- What one entry more makes of what is shown of a node that its call doesn't name.
use Rattle.std.proofs.Common.{◌≡◌, ℕ, ◌<◌, ◌≤◌, refl, ap, sym, ◌∙◌, cond, Bool, true, false, ◌&&◌, List, ◌∷◌, Option, Some, None}
use Rattle.std.specs.Prelude.{unwrap_or, ◌==◌, reverse}
use Rattle.std.specs.Option.{is_some}
use Rattle.cm_nmt.specs.Listing.{Listing, is_listed}
use Rattle.cm_nmt.specs.declared.command.Command.{Command}
use Rattle.cm_history.specs.Answering.{node_named}
use Rattle.cm_history.specs.Machine.{obeyed}
use Rattle.cm_history.specs.Orders.{to_all}
use Rattle.cm_history.specs.History.{is_granted, is_start_by, only_if, sets_by, shown, state_of}
use Rattle.cm_history.specs.declared.call.Call.{Call}
use Rattle.cm_history.specs.declared.call.Call.TheVariants as call
use Rattle.cm_history.specs.declared.call.Reply.{Reply}
use Rattle.cm_history.specs.declared.call.Orders.{Orders}
use Rattle.cm_history.specs.declared.call.Entry.{Entry}
use Rattle.cm_history.specs.declared.slave.Slave.{Slave}
use Rattle.cm_history.proofs.Runs.{slave_step}
use Rattle.cm_growing.specs.Changes.{IsChange, Stays}

only_if_not : (q : Option ℕ) → only_if q false ≡ None
only_if_not None = refl
only_if_not (Some x) = refl

and_not : (b : Bool) → (b && false) ≡ false
and_not true = refl
and_not false = refl

started : (g : Bool) (s : ℕ) → unwrap_or (cond g (Some 0) None) s ≡ cond g 0 s
started true s = refl
started false s = refl

-- a call sets no node that it doesn't name, but for a start of the network
sets_others : (c : Call) (r : Reply) (o : Orders) (t s : ℕ) → (node_named c == t) ≡ false
    → unwrap_or (sets_by c r o t) s ≡ cond (is_start_by c r) 0 s
sets_others call.StartNetwork r o t s e = started (is_granted r) s
sets_others (call.Begin j) r o t s e = refl
sets_others (call.Report j n a) r o t s e = rw e (rw (only_if_not _) refl)
sets_others (call.Signal j b) r o t s e = rw e (rw (only_if_not _) refl)
sets_others (call.Lost j) r o t s e = rw e (rw (and_not _) refl)
sets_others (call.Request j v) r o t s e = rw e (rw (and_not _) refl)
sets_others (call.Read j) r o t s e = refl
sets_others (call.Elapsed ms) r o t s e = refl
sets_others (call.Hold j) r o t s e = rw e (rw (and_not _) refl)
sets_others (call.Release j) r o t s e = refl

-- an unknown state stays, whatever is commanded
stays : (o : Option Command) (b : Bool) → 0 ≡ obeyed o (cond b 0 0)
stays None true = refl
stays None false = refl
stays (Some c) true = refl
stays (Some c) false = refl

state_more : (net : Listing) (past : List Entry) (e : Entry) (t : ℕ) → (node_named e.call == t) ≡ false
    → state_of net (e ∷ past) t ≡ obeyed (to_all e.orders) (cond (is_start_by e.call e.reply) 0 (state_of net past t))
state_more net past e t other =
    ap (λ (s : Slave). s.state) (slave_step net past e t) ∙ by (is_listed net t) refl
  where
    by : (b : Bool) → is_listed net t ≡ b
        → cond b (obeyed (to_all e.orders) (unwrap_or (sets_by e.call e.reply e.orders t) (state_of net past t))) 0
        ≡ obeyed (to_all e.orders) (cond (is_start_by e.call e.reply) 0 (state_of net past t))
    by true is = ap (obeyed (to_all e.orders)) (sets_others e.call e.reply e.orders t (state_of net past t) other)
    by false is = rw is (stays (to_all e.orders) (is_start_by e.call e.reply))

-- what is shown of a node that isn't the manager's own, and that the call doesn't name
pub shown_more : (net : Listing) (past : List Entry) (e : Entry) (t : ℕ) → (node_named e.call == t) ≡ false → (t == net.own) ≡ false
    → shown net (e ∷ past) t ≡ obeyed (to_all e.orders) (cond (is_start_by e.call e.reply) 0 (shown net past t))
shown_more net past e t other slave = rw slave (state_more net past e t other)

-- of a node that the change doesn't set by itself
pub left_is : (net : Listing) (before : List Entry) (e : Entry) (node value own own_value : ℕ) → IsChange net before e node value own own_value
    → (t state : ℕ) → 1 ≤ t → t < 128 → (node == t) ≡ false → (t == own) ≡ false → state ≡ shown net (reverse before) t
    → obeyed (to_all e.orders) (cond (is_start_by e.call e.reply) 0 state) ≡ shown net (e ∷ reverse before) t
left_is net before e node value own own_value change t state low small not_node not_own is =
    ap (λ (s : ℕ). obeyed (to_all e.orders) (cond (is_start_by e.call e.reply) 0 s)) is
    ∙ sym (shown_more net (reverse before) e t (change.named t low small not_node) (rw (← change.is_own) not_own))

-- where the entry has no command to all, and is no start of the network, what is shown of the others stays
pub others_stay : (net : Listing) (before : List Entry) (e : Entry) (node value own own_value : ℕ) → IsChange net before e node value own own_value
    → is_start_by e.call e.reply ≡ false → to_all e.orders ≡ None → Stays net before e node own
others_stay net before e node value own own_value change no_start no_command t low small not_node not_own =
    shown_more net (reverse before) e t (change.named t low small not_node) (rw (← change.is_own) not_own)
    ∙ (ap (λ (o : Option Command). obeyed o (cond (is_start_by e.call e.reply) 0 (shown net (reverse before) t))) no_command
    ∙ ap (λ (b : Bool). cond b 0 (shown net (reverse before) t)) no_start)

-- what isn't there is none
pub none_of : {A : Type 0} (o : Option A) → is_some o ≡ false → o ≡ None
none_of None p = refl
none_of (Some x) p = absurd (cc p)
