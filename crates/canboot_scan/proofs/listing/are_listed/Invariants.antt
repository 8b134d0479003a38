use Rattle.std.proofs.Common.{◌≡◌, take}
use Rattle.std.specs.Prelude.{Some}
use Rattle.std.specs.List.{All}
use Rattle.cm_netlist.specs.Network.{terms}
use Rattle.canboot_scan.specs.Scans.{listed_as}
use Rattle.canboot_scan.proofs.listing.are_listed.Given as goal

-- the devices so far are listed as they were found
abbrev pub invariant-loop-one : goal.invariant-loop-one
invariant-loop-one l = All (λ f. terms l.network f.id ≡ Some (listed_as f)) (take l.one-index l.found)
