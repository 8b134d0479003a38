use Rattle.std.proofs.Common.{◌≡◌, drop}
use Rattle.cm_typed.specs.NodeLists.{number_after, number_in}
use Rattle.cm_typed.proofs.node_lists.number_in.Given as goal

-- with the digits that are left it is the number of all
abbrev pub invariant-loop-digit : goal.invariant-loop-digit
invariant-loop-digit l = number_after l.base l.number (drop l.digit-index l.digits) ≡ number_in l.base l.digits
