-- The first call of a run, by which the network is started (own).
use Rattle.std.specs.Prelude.{◌≡◌, ◌++◌, ℕ, List, [], ◌∷◌, Result, Ok, Err}
use Rattle.cm_history.specs.declared.call.Call.TheVariants as call
use Rattle.cm_history.specs.declared.call.Reply.TheVariants as reply
use Rattle.cm_history.specs.declared.call_fault.CallFault.{CallFault}
use Rattle.cm_register.specs.SeatCalls.{made}
use Rattle.cm_register.specs.SeatViews.{SeatView}
use Rattle.cm_register.specs.declared.made.Receipt.{Receipt}

-- the seat started the network
pub record HasStarted (old new : SeatView) : Type 0 where
  pub number : new.number ≡ old.number
  pub place : ℕ
  pub list : new.list ≡ old.list ++ made place call.StartNetwork reply.Started ∷ []

-- the call was made by which the network is started, and it is
abbrev pub IsStarted : Result Receipt CallFault → Type 0
IsStarted (Ok receipt) = receipt.reply ≡ reply.Started
IsStarted (Err fault) = ⊥
