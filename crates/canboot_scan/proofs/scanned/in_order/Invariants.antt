use Rattle.std.proofs.Common.{ℕ}
use Rattle.std.specs.List.{All}
use Rattle.canboot_scan.specs.Scanning.{IsHeardDevice}
use Rattle.canboot_scan.proofs.scanned.in_order.Given as goal

-- each device so far was heard
abbrev pub invariant-loop-device : goal.invariant-loop-device
invariant-loop-device g l = All (IsHeardDevice g.B.BusName.format g.B.BusName.text) l.found.items
