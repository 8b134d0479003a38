use Rattle.std.proofs.Common.{◌≡◌, ℕ, ◌<◌, get_or}
use Rattle.canboot_scan.specs.declared.found.Found.{Found}
use Rattle.canboot_scan.proofs.listing.are_ids.Given as goal

-- the node-IDs so far are the same
abbrev pub invariant-loop-at : goal.invariant-loop-at
invariant-loop-at l = (k : ℕ) (d : Found) → k < l.at → get_or l.ids k 0 ≡ (get_or l.found k d).id
