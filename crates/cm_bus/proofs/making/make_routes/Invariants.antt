use Rattle.std.proofs.Common.{◌≡◌, take}
use Rattle.cm_bus.proofs.making.make_routes.Given as goal

abbrev pub invariant-loop-id : goal.invariant-loop-id
invariant-loop-id g l = l.listed.items ≡ take l.id-index l.id-items
