-- What each granted call makes of a slave: what the code does to it is what the machine does.
use Rattle.std.proofs.Common.{◌≡◌, ℕ, ◌<◌, refl, ap, sym, subst, ◌∙◌, cond, Bool, true, false, not, ◌&&◌, inl, inr, arith, Option, Some, None}
use Rattle.std.specs.Prelude.{◌==◌}
use Rattle.std.specs.Option.{is_some}
use Rattle.std.proofs.lemmas.Bool.{cases_Bool, eqb-true, eq-eqb, ne_eqb}
use Rattle.std.proofs.lemmas.Grind.{common_steps}
use Rattle.cm_nmt.specs.Codes.{state_left, command_of_request, state_of_code}
use Rattle.cm_nmt.specs.declared.command.Command.{Command}
use Rattle.cm_nmt.specs.Listing.{Listing, is_listed}
use Rattle.cm_nmt.specs.Status.{is_good}
use Rattle.cm_nmt.specs.declared.answers.Answers.{Answers}
use Rattle.cm_nmt.specs.declared.status.Status.{Status}
use Rattle.cm_history.specs.declared.call.Call.{Call}
use Rattle.cm_history.specs.declared.call.Call.TheVariants as call
use Rattle.cm_history.specs.declared.call.Reply.{Reply}
use Rattle.cm_history.specs.declared.call.Reply.TheVariants as reply
use Rattle.cm_history.specs.declared.call.Orders.{Orders}
use Rattle.cm_history.specs.declared.slave.Slave.{Slave}
use Rattle.cm_history.specs.Orders.{is_reset, is_reset_all, is_start_of, to_all, to_every, to_node}
use Rattle.cm_history.specs.History.{is_reset_value, state_reported, state_requested}
use Rattle.cm_history.specs.Answering.{node_named}
use Rattle.cm_history.specs.Machine.{obeyed, slave_after}
use Rattle.cm_history.proofs.Refused.{and_false, names_all, unreached}
use Rattle.cm_sequential.specs.Changes.{boot_ended, cleared, in_state, obeying, obeying_alone}

-- what isn't listed has no state
abbrev pub Unlisted : Listing → ℕ → Slave → Type 0
Unlisted net i s = is_listed net i ≡ false → s.state ≡ 0

and_true : (b : Bool) → (b && true) ≡ b
and_true true = refl
and_true false = refl

zero_obeys : (o : Option Command) → obeyed o 0 ≡ 0
zero_obeys None = refl
zero_obeys (Some c) = refl

-- a slave that obeys, 0 where it isn't listed
obeys_there : (listed : Bool) (o : Option Command) (s : Slave) → (listed ≡ false → s.state ≡ 0) → cond listed (obeyed o s.state) 0 ≡ obeyed o s.state
obeys_there true o s h = refl
obeys_there false o s h = rw (h refl) (sym (zero_obeys o))

pub reported : (net : Listing) (id n : ℕ) (a : Answers) (t : Status) (o : Orders) (i : ℕ) (s ended s' : Slave) (good : Bool) (left : ℕ) (q : Option Command)
    → is_listed net id ≡ true → Unlisted net i s → good ≡ is_good t → left ≡ cond (is_start_of o id) 5 (state_reported t a) → q ≡ to_all o
    → ended ≡ cond (id == i) (boot_ended good left s) s → s' ≡ obeying q ended → s' ≡ slave_after net (call.Report id n a) (reply.Reported t) o i s
reported net id n a t o i s ended s' good left q listed u e1 e2 e3 ends obeys = obeys ∙ rw (e3, ends, e1, e2) (elim (cases_Bool (id == i)) [
  | inl here ↦ let same : i ≡ id = sym (eqb-true id i here) in rw (same, eq-eqb id id refl, listed, and_true (is_good t)) refl
  | inr there ↦ rw (there, obeys_there (is_listed net i) (to_all o) s u) (rw (and_false (is_good t)) refl)
])

-- the slave that a call names is listed
named_listed : (net : Listing) (id i : ℕ) → is_listed net id ≡ true → (id == i) ≡ true → is_listed net i ≡ true
named_listed net id i listed here = subst (λ (j : ℕ). is_listed net j ≡ true) (eqb-true id i here) listed

-- a call that reaches the slave that it names alone, and what it makes of that one
pub set_named : (net : Listing) (c : Call) (r : Reply) (o : Orders) (change : Slave → Slave) (i : ℕ) (s : Slave) → is_some (to_all o) ≡ false → names_all c ≡ false
    → is_listed net (node_named c) ≡ true → Unlisted net i s → change s ≡ slave_after net c r o (node_named c) s
    → cond (node_named c == i) (change s) s ≡ slave_after net c r o i s
set_named net c r o change i s one few listed u named = elim (cases_Bool (node_named c == i)) [
  | inl here ↦ ap (λ (b : Bool). cond b (change s) s) here ∙ subst (λ (j : ℕ). change s ≡ slave_after net c r o j s) (eqb-true (node_named c) i here) named
  | inr there ↦ ap (λ (b : Bool). cond b (change s) s) there ∙ sym (unreached net c r o i s one few there u)
]

lost_there : (all listed : Bool) (o : Option Command) (s : Slave) → (listed ≡ false → s.state ≡ 0)
    → obeying o (cond all (cleared s) s)
    ≡ record { state = cond listed (obeyed o s.state) 0; booted = not all && s.booted; session = cond all None s.session }
lost_there true listed o s h = rw (obeys_there listed o s h) refl
lost_there false listed o s h = rw (obeys_there listed o s h) refl

pub lost : (net : Listing) (id : ℕ) (o : Orders) (i : ℕ) (s first gone s' : Slave) (all : Bool) (q : Option Command) → is_listed net id ≡ true → Unlisted net i s
    → all ≡ is_reset_all o → q ≡ to_all o → first ≡ cond all (cleared s) s → gone ≡ cond (id == i) (in_state 1 (cleared first)) first → s' ≡ obeying q gone
    → s' ≡ slave_after net (call.Lost id) reply.Handled o i s
lost net id o i s first gone s' all q listed u e1 e2 clears goes obeys = obeys ∙ rw (e2, goes, clears, e1) (elim (cases_Bool (id == i)) [
  | inl here ↦ rw (here, named_listed net id i listed here) refl
  | inr there ↦ rw there (lost_there (is_reset_all o) (is_listed net i) (to_all o) s u)
])

pub all_asked : (net : Listing) (v : ℕ) (c : Command) (i : ℕ) (s first s' : Slave) (all : Bool) → i < 128 → is_reset_value v ≡ is_reset c → Unlisted net i s
    → all ≡ is_reset c → first ≡ cond all (cleared s) s → s' ≡ obeying (Some c) first → s' ≡ slave_after net (call.Request 128 v) reply.Done (to_every c) i s
all_asked net v c i s first s' all small resets u e clears obeys = obeys ∙ rw (clears, e)
    (rw (resets, ne_eqb 128 i (λ e. absurd (omega (arith, e, small))), and_true (is_reset c)) (lost_there (is_reset c) (is_listed net i) (Some c) s u))

pub asked_alone : (net : Listing) (id v : ℕ) (c : Command) (s : Slave) → is_listed net id ≡ true → is_reset_value v ≡ is_reset c → state_requested v ≡ state_left c
    → obeying_alone c s ≡ slave_after net (call.Request id v) reply.Done (to_node c id) id s
asked_alone net id v c s listed resets left = grind (arith, common_steps, listed, resets, left)

pub passed : (net : Listing) (ms : ℕ) (o : Orders) (i : ℕ) (s s' : Slave) (q : Option Command) → Unlisted net i s → q ≡ to_all o → s' ≡ obeying q s
    → s' ≡ slave_after net (call.Elapsed ms) reply.InTime o i s
passed net ms o i s s' q u e obeys = obeys ∙ rw (e, obeys_there (is_listed net i) (to_all o) s u) refl

-- ---- the values of a request

-- what the command of a value does is what the value asks for
pub record IsRequest (v : ℕ) (c : Command) : Type 0 where
  pub resets : is_reset_value v ≡ is_reset c
  pub left : state_requested v ≡ state_left c
  pub own : state_of_code v ≡ state_of_code (state_left c)

pub requested : (v : ℕ) (c : Command) → command_of_request v ≡ Some c → IsRequest v c
requested v c e = record { resets = grind (arith, common_steps); left = grind (arith, common_steps); own = grind (arith, common_steps) }
