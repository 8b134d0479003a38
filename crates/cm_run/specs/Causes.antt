-- Working definitions, behind the contract of `run_text`: why a run has no history (own).
use Rattle.cm_register.specs.declared.fault.OpenFault.{OpenFault}
use Rattle.cm_register.specs.declared.fault.OpenFault.TheVariants as opening
use Rattle.cm_run.specs.declared.fault.RunKind.{RunKind}
use Rattle.cm_run.specs.declared.fault.RunKind.TheVariants as run
use Rattle.cm_run.specs.declared.outcome.Last.{Last}
use Rattle.cm_run.specs.declared.outcome.Last.TheVariants as last
use Rattle.cm_history.specs.declared.call_fault.CallFault.{CallFault}
use Rattle.cm_history.specs.declared.call_fault.CallFault.TheVariants as call
use Rattle.cm_run.specs.declared.recording.NoHistory.{NoHistory}
use Rattle.cm_run.specs.declared.recording.NoHistory.TheVariants.{OutOfMemory, NoWorker}

-- want of memory is told as that, and any other fault as that of a worker: the fault of a call, that of a register which isn't
-- opened or named, and that of the workers
abbrev pub cause_of_call : CallFault → NoHistory
cause_of_call call.OutOfMemory = OutOfMemory
cause_of_call call.JournalFull = NoWorker
cause_of_call call.WireFull = NoWorker
cause_of_call call.SeatStale = NoWorker

abbrev pub cause_of_open : OpenFault → NoHistory
cause_of_open opening.BadSeats = NoWorker
cause_of_open opening.BadLimit = NoWorker
cause_of_open opening.WireUsed = NoWorker
cause_of_open opening.OutOfMemory = OutOfMemory
cause_of_open opening.NoReader = NoWorker

abbrev pub cause_of_run : RunKind → NoHistory
cause_of_run run.BadWorkers = NoWorker
cause_of_run run.BadAttempts = NoWorker
cause_of_run run.OutOfMemory = OutOfMemory
cause_of_run run.NoWorker = NoWorker

-- a call of the attempt was refused memory
abbrev pub LacksMemory : Last → Type 0
LacksMemory (last.Status s) = ⊥
LacksMemory (last.Refused r) = ⊥
LacksMemory (last.Fault call.OutOfMemory) = Unit {0}
LacksMemory (last.Fault call.JournalFull) = ⊥
LacksMemory (last.Fault call.WireFull) = ⊥
LacksMemory (last.Fault call.SeatStale) = ⊥
LacksMemory last.Left = ⊥
