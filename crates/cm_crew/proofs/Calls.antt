-- What holds of each begin and each report of a slave holds of all calls of its rounds.
use Rattle.std.proofs.Common.{ℕ, Bool, List, [], ◌∷◌, ◌++◌}
use Rattle.std.specs.Prelude.{All}
use Rattle.std.proofs.lemmas.List.Elements.{All-append, All-cons, All-nil, All-same}
use Rattle.cm_boot.specs.declared.question.Answer.{Answer}
use Rattle.cm_boot.specs.declared.question.Question.{Question}
use Rattle.cm_history.specs.declared.call.Call.TheVariants as call
use Rattle.cm_history.specs.declared.call.Reply.{Reply}
use Rattle.cm_netlist.specs.Network.{Network}
use Rattle.cm_nmt.specs.declared.answers.Answers.{Answers}
use Rattle.cm_run.specs.Rounds.{Fail, HasRound, calls_in}
use Rattle.cm_run.specs.declared.outcome.Attempt.{Attempt}
use Rattle.cm_run.specs.declared.outcome.Attempt.TheVariants as attempt
use Rattle.cm_run.specs.declared.outcome.Outcome.{Outcome}
use Rattle.cm_register.specs.SeatCalls.{made}
use Rattle.cm_register.specs.declared.made.Made.{Made}

module _ (P : Made → Type 0) (i : ℕ) (begins : (position : ℕ) (reply : Reply) → P (made position (call.Begin i) reply))
    (reports : (position : ℕ) (n : ℕ) (a : Answers) (reply : Reply) → P (made position (call.Report i n a) reply)) where
  attempt_each : (t : Attempt) → All P (calls_in i t)
  attempt_each (attempt.NotBegun f) = All-nil P
  attempt_each (attempt.Refused r n) = All-cons P (made r.position (call.Begin i) r.reply) [] (begins r.position r.reply) (All-nil P)
  attempt_each (attempt.Left r n a) = All-cons P (made r.position (call.Begin i) r.reply) [] (begins r.position r.reply) (All-nil P)
  attempt_each (attempt.NotReported r n a f) = All-cons P (made r.position (call.Begin i) r.reply) [] (begins r.position r.reply) (All-nil P)
  attempt_each (attempt.Ended b n a r l) =
      All-cons P (made b.position (call.Begin i) b.reply) (made r.position (call.Report i n a) r.reply ∷ []) (begins b.position b.reply)
      (All-cons P (made r.position (call.Report i n a) r.reply) [] (reports r.position n a r.reply) (All-nil P))

  module _ {B : Type 0} (step : B → ℕ → Question → Answer → B → Type 0) (looks : B → ℕ → Bool → B → Type 0) (net : Network) where
    attempts_each : (b : B) (ts : List Attempt) (list : List Made) (c : B) → Fail step looks net i b ts list c → All P list
    attempts_each b [] list c f = All-same P list [] f.0 (All-nil P)
    attempts_each b (t ∷ ts) list c f =
        All-same P list (calls_in i t ++ f.0) f.5 (All-append P (calls_in i t) f.0 (attempt_each t) (attempts_each f.1 ts f.0 c f.4))

    pub round_each : (m : ℕ) (o : Outcome) (old new : List Made) (b c : B) → HasRound step looks net i m o old new b c → All P old → All P new
    round_each m o old new b c r before =
        All-same P new (old ++ r.added) r.grown
        (All-append P old r.added before
        (All-same P r.added (r.round.before ++ calls_in i r.round.final) r.round.calls
        (All-append P r.round.before (calls_in i r.round.final) (attempts_each b r.round.failed r.round.before r.round.between r.round.fails) (attempt_each r.round.final))))
