-- What was received of the reports in a history, whose oldest entry comes first (own).
use Rattle.std.specs.Prelude.{◌≡◌, ◌≤◌, ℕ, List, ◌∷◌, Option, Some, IsTrue, reverse, true}
use Rattle.cm_nmt.specs.Bits.{has_bit}
use Rattle.cm_nmt.specs.Listing.{is_mandatory}
use Rattle.cm_nmt.specs.NodeId.{IsNodeId}
use Rattle.cm_nmt.specs.declared.terms.Terms.{Terms}
use Rattle.cm_history.specs.Laws.{AtEach, ShowsIdentity, StandsSince}
use Rattle.cm_history.specs.Orders.{is_start_all}
use Rattle.cm_history.specs.declared.call.Entry.{Entry}
use Rattle.cm_bus.specs.Receiving.{AllStartsHeard, HasHeardIdentity}
use Rattle.cm_crew.specs.ReceivedCalls.{IsReceivedCall, IsReceivedList}
use Rattle.cm_can.specs.declared.format.Format.{Format}
use Rattle.cm_netlist.specs.Network.{Network, listing, terms}
use Rattle.cm_register.specs.SeatCalls.{calls_of}
use Rattle.cm_crew.specs.Workers.{AreOfTheirSeats}

-- the answers of the entry's report, but silence, were received, between two places; any other entry says nothing
abbrev pub WasReceived : Format → Option (List ℕ) → Network → Entry → Type 0
WasReceived format text net e = (from : ℕ) × (upto : ℕ) × IsReceivedCall format text net e.call from upto

-- the entry is a report of slave i that was granted and shows the identity that is expected, its answers were received, and
-- each set value of 1F84h to 1F88h was heard between the same places; from where the boot began to each of them no boot-up message of
-- the slave stands
abbrev pub HasShownHeard : Format → Option (List ℕ) → Network → Terms → ℕ → Entry → Type 0
HasShownHeard format text net t i e =
    ShowsIdentity t i e × (from : ℕ) × (upto : ℕ)
    × IsReceivedCall format text net e.call from upto
    × ((begun : ℕ) × (from ≤ begun) × HasHeardIdentity format text t i begun begun upto)

-- where the entry's orders start all, each mandatory slave that is to be booted, 1F81h bit 2, has made such a report since it
-- was last cleared
abbrev pub StartsAllHeard : Format → Option (List ℕ) → Network → Entry → List Entry → Type 0
StartsAllHeard format text net e past =
    IsTrue (is_start_all e.orders) → (i : ℕ) (t : Terms) → IsNodeId i → terms net i ≡ Some t → IsTrue (is_mandatory (listing net) i)
    → has_bit t.assignment.0 2 ≡ true → StandsSince (HasShownHeard format text net t i) i (e ∷ past)

-- where a report's orders start its slave, the slave's identity was heard; where orders start all, that of each mandatory slave that
-- is to be booted was; and each answer of each report, but silence, was given by a frame that was received, behind those of the
-- reports of its seat before it; and the reports on a slave are one worker's, so that no two seats rest on one line
pub record IsAllHeard (format : Format) (text : Option (List ℕ)) (net : Network) (seats : ℕ) (entries : List Entry) : Type 0 where
  pub starts : AllStartsHeard format text net entries
  pub all : AtEach (StartsAllHeard format text net) (reverse entries)
  pub reports : (seat : ℕ) → IsReceivedList format text net (calls_of entries seat)
  pub workers : AreOfTheirSeats net seats entries
