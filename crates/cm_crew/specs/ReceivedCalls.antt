-- What was received of the calls of a seat, among the frames that stand in the text that is received (own).
use Rattle.std.specs.Prelude.{◌≤◌, ℕ, List, [], ◌∷◌, Option}
use Rattle.cm_netlist.specs.Network.{Network, entry}
use Rattle.cm_boot.specs.Talk.{asked}
use Rattle.cm_bus.specs.Receiving.{AreGiven}
use Rattle.cm_can.specs.declared.format.Format.{Format}
use Rattle.cm_history.specs.declared.call.Call.{Call}
use Rattle.cm_history.specs.declared.call.Call.TheVariants as call
use Rattle.cm_register.specs.declared.made.Made.{Made}

-- the answers of a report were given so, each to its question, behind the place at which the boot began: from there to each of them
-- no boot-up message of the slave stands; any other call says nothing
abbrev pub IsReceivedCall : Format → Option (List ℕ) → Network → Call → ℕ → ℕ → Type 0
IsReceivedCall format text net (call.Report i n a) from upto =
    (begun : ℕ) × (from ≤ begun) × AreGiven format text i begun (asked (entry net i) a) begun upto
IsReceivedCall format text net _ from upto = from ≤ upto

-- and so for the calls of a list, each behind the one before
abbrev pub AreReceived : Format → Option (List ℕ) → Network → List Made → ℕ → ℕ → Type 0
AreReceived format text net [] from upto = from ≤ upto
AreReceived format text net (m ∷ ms) from upto =
    (mid : ℕ) × IsReceivedCall format text net m.call from mid × AreReceived format text net ms mid upto

-- from the beginning of the text
abbrev pub IsReceivedList : Format → Option (List ℕ) → Network → List Made → Type 0
IsReceivedList format text net list = (upto : ℕ) × AreReceived format text net list 0 upto

-- the call is no report
abbrev pub IsNoReport : Call → Type 0
IsNoReport (call.Report i n a) = ⊥
IsNoReport _ = Unit {0}
