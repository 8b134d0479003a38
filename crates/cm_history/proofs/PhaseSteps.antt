-- The phase that a history says, one entry later.
use Rattle.std.proofs.Common.{◌≡◌, ℕ, List, [], ◌∷◌, refl, cond, Bool, true, false, ◌||◌, Option, Some, None}
use Rattle.std.specs.Prelude.{unwrap_or}
use Rattle.std.specs.Option.{option_or}
use Rattle.cm_nmt.specs.Listing.{Listing}
use Rattle.cm_history.specs.declared.call.Call.{Call}
use Rattle.cm_history.specs.declared.call.Call.TheVariants as call
use Rattle.cm_history.specs.declared.call.Reply.{Reply}
use Rattle.cm_history.specs.declared.call.Reply.TheVariants as reply
use Rattle.cm_history.specs.declared.call.Entry.{Entry}
use Rattle.cm_history.specs.declared.phase.Phase.{Phase}
use Rattle.cm_history.specs.declared.phase.Phase.TheVariants as phase
use Rattle.cm_history.specs.History.{decides_by, first_decided, is_empty, is_fatal, is_start_by, is_started, open_of, phase_of}
use Rattle.cm_history.specs.Machine.{phase_then}
use Rattle.cm_history.specs.Phases.{is_halted, is_ready}

chosen_last : (fatal ready : Bool) (p : Phase) → cond fatal (Some phase.Halted) (cond ready (Some phase.Ready) None) ≡ Some p → (is_ready p || is_halted p) ≡ true
chosen_last true ready phase.Halted e = refl
chosen_last false true phase.Ready e = refl
chosen_last fatal ready p e = cc

ready_last : (ready : Bool) (p : Phase) → cond ready (Some phase.Ready) None ≡ Some p → (is_ready p || is_halted p) ≡ true
ready_last true phase.Ready e = refl
ready_last ready p e = cc

halted_last : (p : Phase) → Some phase.Halted ≡ Some p → (is_ready p || is_halted p) ≡ true
halted_last phase.Halted e = refl
halted_last p e = cc

-- an entry decides for ready or halted alone
decided_last : (net : Listing) (c : Call) (r : Reply) (open_slaves : List ℕ) (p : Phase) → decides_by net c r open_slaves ≡ Some p → (is_ready p || is_halted p) ≡ true
decided_last net (call.Report i n a) (reply.Reported s) open_slaves p e = chosen_last (is_fatal net i s) (is_empty open_slaves) p e
decided_last net call.StartNetwork reply.TimeUp open_slaves p e = halted_last p e
decided_last net (call.Begin i) reply.TimeUp open_slaves p e = halted_last p e
decided_last net (call.Report i n a) reply.TimeUp open_slaves p e = halted_last p e
decided_last net (call.Signal i b) reply.TimeUp open_slaves p e = halted_last p e
decided_last net (call.Lost i) reply.TimeUp open_slaves p e = halted_last p e
decided_last net (call.Request t v) reply.TimeUp open_slaves p e = halted_last p e
decided_last net (call.Read t) reply.TimeUp open_slaves p e = halted_last p e
decided_last net (call.Elapsed ms) reply.TimeUp open_slaves p e = halted_last p e
decided_last net (call.Hold i) reply.TimeUp open_slaves p e = halted_last p e
decided_last net (call.Release i) reply.TimeUp open_slaves p e = halted_last p e
decided_last net call.StartNetwork reply.InTime open_slaves p e = ready_last (is_empty open_slaves) p e
decided_last net (call.Begin i) reply.InTime open_slaves p e = ready_last (is_empty open_slaves) p e
decided_last net (call.Report i n a) reply.InTime open_slaves p e = ready_last (is_empty open_slaves) p e
decided_last net (call.Signal i b) reply.InTime open_slaves p e = ready_last (is_empty open_slaves) p e
decided_last net (call.Lost i) reply.InTime open_slaves p e = ready_last (is_empty open_slaves) p e
decided_last net (call.Request t v) reply.InTime open_slaves p e = ready_last (is_empty open_slaves) p e
decided_last net (call.Read t) reply.InTime open_slaves p e = ready_last (is_empty open_slaves) p e
decided_last net (call.Elapsed ms) reply.InTime open_slaves p e = ready_last (is_empty open_slaves) p e
decided_last net (call.Hold i) reply.InTime open_slaves p e = ready_last (is_empty open_slaves) p e
decided_last net (call.Release i) reply.InTime open_slaves p e = ready_last (is_empty open_slaves) p e
decided_last net c r open_slaves p e = cc

first_of : (start : Bool) (f d : Option Phase) (p : Phase) → cond start None (option_or f d) ≡ Some p → (f ≡ Some p → (is_ready p || is_halted p) ≡ true)
    → (d ≡ Some p → (is_ready p || is_halted p) ≡ true) → (is_ready p || is_halted p) ≡ true
first_of true f d p e before now = cc
first_of false (Some q) d p e before now = before e
first_of false None d p e before now = now e

first_last : (net : Listing) (past : List Entry) (p : Phase) → first_decided net past ≡ Some p → (is_ready p || is_halted p) ≡ true
first_last net [] p e = cc
first_last net (e ∷ past) p h =
    first_of (is_start_by e.call e.reply) (first_decided net past) (decides_by net e.call e.reply (open_of net (e ∷ past))) p h
    (first_last net past p) (decided_last net e.call e.reply (open_of net (e ∷ past)) p)

more_by : (b s : Bool) (f d : Option Phase) → ((p : Phase) → f ≡ Some p → (is_ready p || is_halted p) ≡ true)
    → cond (b || s) (unwrap_or (cond b None (option_or f d)) phase.Booting) phase.Idle ≡ cond b phase.Booting (phase_then (cond s (unwrap_or f phase.Booting) phase.Idle) d)
more_by true s f d last = refl
more_by false false f d last = refl
more_by false true None None last = refl
more_by false true None (Some p) last = refl
more_by false true (Some phase.Ready) d last = refl
more_by false true (Some phase.Halted) d last = refl
more_by false true (Some phase.Idle) d last = let wrong = last phase.Idle refl in cc
more_by false true (Some phase.Booting) d last = let wrong = last phase.Booting refl in cc

-- the phase after one entry more
pub phase_more : (net : Listing) (past : List Entry) (e : Entry) → phase_of net (e ∷ past)
    ≡ cond (is_start_by e.call e.reply) phase.Booting (phase_then (phase_of net past) (decides_by net e.call e.reply (open_of net (e ∷ past))))
phase_more net past e =
    more_by (is_start_by e.call e.reply) (is_started past) (first_decided net past) (decides_by net e.call e.reply (open_of net (e ∷ past))) (first_last net past)
