use Rattle.std.proofs.Common.{◌≡◌, ◌≤◌, [], vec_capacity}
use Rattle.cm_bus.proofs.Waiting.{HasPassed}
use Rattle.cm_bus.proofs.bus.wait_for.Given as goal

abbrev pub invariant-loop-passed : goal.invariant-loop-passed
invariant-loop-passed g l = HasPassed l.id l.question l.passed l.fn.log.items l.log.items × (vec_capacity l.log ≡ vec_capacity l.fn.log) × (l.fn.last ≤ l.last) × g.P.Port.sends l.fn.port [] l.port
