-- The fault with which a worker's attempts ended (own).
use Rattle.std.specs.Prelude.{Option, Some, None}
use Rattle.cm_run.specs.declared.outcome.Last.{Last}
use Rattle.cm_run.specs.declared.outcome.Last.TheVariants as last
use Rattle.cm_history.specs.declared.call_fault.CallFault.{CallFault}

-- the fault of a call that couldn't be made, with which a worker's attempts ended
abbrev pub fault_of : Last → Option CallFault
fault_of (last.Status s) = None
fault_of (last.Refused r) = None
fault_of (last.Fault f) = Some f
fault_of last.Left = None
