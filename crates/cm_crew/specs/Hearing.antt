-- What was heard of a slave over a live bus (own, over CiA 301 and CiA 302-2, boot slave).
use Rattle.std.specs.Prelude.{◌≡◌, ◌≢◌, ℕ, List, [], ◌∷◌, ◌++◌, All}
use Rattle.cm_netlist.specs.Network.{Network, entry}
use Rattle.cm_boot.specs.Talk.{asked}
use Rattle.cm_boot.specs.declared.question.Question.{Question}
use Rattle.cm_boot.specs.declared.question.Answer.{Answer}
use Rattle.cm_boot.specs.declared.question.Answer.TheVariants as answer
use Rattle.cm_history.specs.declared.call.Call.{Call}
use Rattle.cm_history.specs.declared.call.Call.TheVariants as call
use Rattle.cm_register.specs.declared.made.Made.{Made}
use Rattle.cm_bus.specs.Talk.{IsTalk}
use Rattle.cm_bus.specs.declared.event.PortEvent.{PortEvent}

-- the whole talk of a question to the node, with this answer, stands in the log: its request, and, of the frames behind it,
-- the first that answers it
pub record WasAsked (node : ℕ) (q : Question) (x : Answer) (log : List PortEvent) : Type 0 where
  pub before : List PortEvent
  pub talk : List PortEvent
  pub rest : List PortEvent
  pub is : IsTalk node q x talk
  pub stands : log ≡ before ++ (talk ++ rest)

-- each of these questions with its answer stands so in the log, but those that were answered with silence
abbrev pub AreHeard : ℕ → List (Question × Answer) → List PortEvent → Type 0
AreHeard node [] log = Unit {0}
AreHeard node (qx ∷ rest) log = (qx.1 ≢ answer.Silent → WasAsked node qx.0 qx.1 log) × AreHeard node rest log

-- the answers of a report were heard so, each as the answer to its question; any other call says nothing
abbrev pub IsHeardCall : Network → ℕ → Call → List PortEvent → Type 0
IsHeardCall net i (call.Report j n a) log = AreHeard i (asked (entry net i) a) log
IsHeardCall net i _ log = Unit {0}

-- a seat's list grew by calls whose answers were heard
pub record HasHeardCalls (net : Network) (i : ℕ) (old new : List Made) (log : List PortEvent) : Type 0 where
  pub added : List Made
  pub grown : new ≡ old ++ added
  pub heard : All (λ (m : Made). IsHeardCall net i m.call log) added
