use Rattle.std.proofs.Common.{◌≡◌, map, take}
use Rattle.cm_history.specs.OrderFrames.{reset_of}
use Rattle.cm_sequential.proofs.sending.single_resets.Given as goal

-- the resets of the slaves so far
abbrev pub invariant-loop-id : goal.invariant-loop-id
invariant-loop-id l = l.sent.items ≡ map reset_of (take l.id-index l.id-items)
