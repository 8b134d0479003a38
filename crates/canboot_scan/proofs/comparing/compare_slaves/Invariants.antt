use Rattle.std.proofs.Common.{◌≡◌, [], take}
use Rattle.std.specs.List.{All}
use Rattle.canboot_scan.specs.Compared.{IsFoundAsListed}
use Rattle.canboot_scan.proofs.comparing.compare_slaves.Given as goal

-- where nothing was put down, each slave so far was found as it is listed
abbrev pub invariant-loop-id : goal.invariant-loop-id
invariant-loop-id l =
    l.differences.items ≡ [] → (l.initial.differences.items ≡ []) × All (IsFoundAsListed l.network l.found) (take l.id-index l.ids)
