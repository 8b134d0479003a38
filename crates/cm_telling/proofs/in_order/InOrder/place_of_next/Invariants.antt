use Rattle.std.proofs.Common.{◌≡◌, None, take}
use Rattle.cm_telling.specs.InOrder.{entry_at}
use Rattle.cm_telling.proofs.in_order.InOrder.place_of_next.Given as goal

-- none of those so far is the next
abbrev pub invariant-loop-place : goal.invariant-loop-place
invariant-loop-place g l = entry_at (take l.place l.self.waiting.items) l.self.next ≡ None
