use Rattle.std.proofs.Common.{◌≡◌, [], take, IsTrue}
use Rattle.std.specs.List.{All}
use Rattle.cm_netlist.specs.Network.{is_listed}
use Rattle.canboot_scan.proofs.comparing.compare_unlisted.Given as goal

-- where nothing was put down, each device so far is listed
abbrev pub invariant-loop-one : goal.invariant-loop-one
invariant-loop-one l =
    l.differences.items ≡ [] → (l.initial.differences.items ≡ []) × All (λ f. IsTrue (is_listed l.network f.id)) (take l.one-index l.found)
