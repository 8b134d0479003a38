-- Where a call of those who boot slaves and operate isn't made (own).
use Rattle.std.specs.Prelude.{◌≡◌, ◌≢◌, ◌<◌, ℕ, List, length, slice_index_or}
use Rattle.cm_nmt.specs.Listing.{Listing}
use Rattle.cm_history.specs.declared.call.Call.{Call}
use Rattle.cm_history.specs.declared.call.Call.TheVariants as call
use Rattle.cm_register.specs.Calling.{IsCallCause}
use Rattle.cm_register.specs.Reads.{HasMadeCalls}
use Rattle.cm_register.specs.SeatViews.{SeatView}
use Rattle.cm_history.specs.declared.call_fault.CallFault.{CallFault}
use Rattle.cm_history.specs.declared.call_fault.CallFault.TheVariants as fault
use Rattle.cm_run.specs.declared.operator.OperateFault.{OperateFault}
use Rattle.cm_run.specs.declared.outcome.Last.{Last}
use Rattle.cm_run.specs.declared.outcome.Last.TheVariants as last
use Rattle.cm_run.specs.declared.outcome.Outcome.{Outcome}

-- the call begins a boot of slave i, or reports one
abbrev pub IsBootCall : ℕ → Call → Type 0
IsBootCall i (call.Begin n) = n ≡ i
IsBootCall i (call.Report n session answers) = n ≡ i
IsBootCall i _ = ⊥

module _ (net : Listing) (seats limit : ℕ) where
  -- a call that boots slave i wasn't made, and there was the fault's cause; before it the seat made some calls
  pub record HasBootCause (i : ℕ) (seat : SeatView) (f : CallFault) : Type 0 where
    pub then : SeatView
    pub made : HasMadeCalls seat then
    pub call : Call
    pub boots : IsBootCall i call
    pub cause : IsCallCause net seats limit then call f

  -- where the attempts at slave i ended with a fault, there was its cause
  abbrev pub EndsForCause : ℕ → SeatView → Last → Type 0
  EndsForCause i seat (last.Fault f) = HasBootCause i seat f
  EndsForCause i seat _ = Unit {0}

  -- and so for an outcome
  abbrev pub FailsForCause : SeatView → Outcome → Type 0
  FailsForCause seat o = EndsForCause o.id seat o.last

  -- the first of these calls that wasn't made met the fault's cause, the seat being so; memory may be refused before any of them
  abbrev pub StopsForCause : SeatView → List Call → OperateFault → Type 0
  StopsForCause seat calls f =
      f.fault ≢ fault.OutOfMemory
      → (f.done < length calls) × ((d : Call) → IsCallCause net seats limit seat (slice_index_or calls f.done d) f.fault)
