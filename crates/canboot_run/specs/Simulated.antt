-- What a run with simulated slaves does, over its history (own).
use Rattle.std.specs.Prelude.{◌≡◌, ◌+◌, ◌<◌, ◌==◌, ◌||◌, ◌&&◌, ◌++◌, ℕ, Bool, false, List, [], ◌∷◌, filter, length, map, All}
use Rattle.std.specs.Prelude.{None, if◌then◌else◌, option_map, slice_index_or}
use Rattle.cm_nmt.specs.Status.{is_good}
use Rattle.cm_netlist.specs.Network.{Network, listed_ids}
use Rattle.cm_history.specs.NodeSets.{has}
use Rattle.cm_history.specs.declared.call.Call.{Call}
use Rattle.cm_history.specs.declared.call.Call.TheVariants as call
use Rattle.cm_history.specs.declared.call.Entry.{Entry}
use Rattle.cm_history.specs.declared.call.Reply.TheVariants as reply
use Rattle.cm_register.specs.SeatCalls.{calls_of, made}
use Rattle.cm_register.specs.SeatViews.{SeatView}
use Rattle.cm_register.specs.declared.made.Made.{Made}
use Rattle.cm_register.specs.declared.made.Receipt.{Receipt}
use Rattle.cm_run.specs.Buses.{Steps, put_on, slave_at}
use Rattle.cm_run.specs.Operating.{with_receipts}
use Rattle.cm_run.specs.declared.bus.SimBus.{SimBus}
use Rattle.cm_run.specs.Rounds.{AllReported, AreRounds}
use Rattle.cm_run.specs.Running.{id_of}
use Rattle.cm_run.specs.Shares.{share}
use Rattle.cm_run.specs.declared.outcome.Last.{Last}
use Rattle.cm_run.specs.declared.outcome.Last.TheVariants as last
use Rattle.cm_run.specs.declared.outcome.Outcome.{Outcome}
use Rattle.canboot_run.specs.SlaveFaults.{slave_given}
use Rattle.canboot_run.specs.declared.slave_faults.SlaveFaults.{SlaveFaults}

-- the slave of the outcome is booted: its last boot came to Ok or L
abbrev pub is_booted : Outcome → Bool
is_booted outcome = comes_good outcome.last
  where
    comes_good : Last → Bool
    comes_good (last.Status s) = is_good s
    comes_good (last.Refused n) = false
    comes_good (last.Fault f) = false
    comes_good last.Left = false

-- the slave of the outcome is booted, and dies then
abbrev pub is_lost : SlaveFaults → Outcome → Bool
is_lost faults outcome = has faults.dying outcome.id && is_booted outcome

-- the calls by which the slaves that died are reported as lost, in the order of the outcomes
abbrev pub losses : SlaveFaults → List Outcome → List Call
losses faults outcomes = map (λ o. call.Lost o.id) (filter (λ o. is_lost faults o) outcomes)

-- the operator's calls behind the boots: the losses, and then that no time went by
abbrev pub calls_behind : SlaveFaults → List Outcome → List Call
calls_behind faults outcomes = losses faults outcomes ++ call.Elapsed 0 ∷ []

-- the operator, who has seat 1, has made just these calls, each with a reply: by the first entry of all the network was started, and
-- behind the boots that came to these outcomes each slave that died was reported as lost, and then it was said that no time went by
pub record IsOperated (faults : SlaveFaults) (outcomes : List Outcome) (entries : List Entry) : Type 0 where
  pub receipts : List Receipt
  pub count : length receipts ≡ length (calls_behind faults outcomes)
  pub calls : calls_of entries 1
      ≡ made 1 call.StartNetwork reply.Started ∷ with_receipts (calls_behind faults outcomes) receipts

-- the node is one of these
abbrev pub is_one_of : List ℕ → ℕ → Bool
is_one_of [] i = false
is_one_of (n ∷ ns) i = n == i || is_one_of ns i

-- on the bus are just the slaves of these nodes, in the state in which they are put on it
abbrev pub IsBusOf : Network → SlaveFaults → List ℕ → SimBus → Type 0
IsBusOf net faults ids bus =
    (i : ℕ) → i < 128 → slave_at bus i ≡ (if is_one_of ids i then option_map put_on (slave_given net faults i) else None)

-- each call of the attempt was made
abbrev pub WasMade : Last → Type 0
WasMade (last.Status s) = Unit {0}
WasMade (last.Refused r) = Unit {0}
WasMade (last.Fault f) = ⊥
WasMade last.Left = ⊥

-- and so for the last attempt at a slave, behind which a round ends
abbrev pub AreMade : Outcome → Type 0
AreMade outcome = WasMade outcome.last

-- by just these calls worker k of w boots its slaves, one after another in rising order, each in this many attempts at most,
-- to these outcomes, over this bus, which gives the answers that are reported; none of the calls is left out
pub record BootsSlaves (net : Network) (w attempts k : ℕ) (outcomes : List Outcome) (bus : SimBus) (calls : List Made) : Type 0 where
  pub slaves : map id_of outcomes ≡ share w k (listed_ids net)
  pub made : All AreMade outcomes
  pub after : SimBus
  pub rounds : AreRounds Steps AllReported net attempts outcomes bus calls after

-- worker k of w, who has seat k + 2, has made just the calls by which it boots its slaves over a bus of its slaves, to its outcomes
pub record HasWorked (net : Network) (w attempts : ℕ) (faults : SlaveFaults) (outcomes : List Outcome) (entries : List Entry) (k : ℕ) : Type 0 where
  pub bus : SimBus
  pub on_it : IsBusOf net faults (share w k (listed_ids net)) bus
  pub calls : BootsSlaves net w attempts k (share w k outcomes) bus (calls_of entries (k + 2))

-- the history is that of a run with simulated slaves: the operator has started the network, each of w workers has booted its slaves,
-- in this many attempts at most at each, and then the operator has reported what died; there is an outcome for each listed slave, in
-- rising order
pub record IsSimulated (net : Network) (w attempts : ℕ) (faults : SlaveFaults) (entries : List Entry) : Type 0 where
  pub outcomes : List Outcome
  pub slaves : map id_of outcomes ≡ listed_ids net
  pub operated : IsOperated faults outcomes entries
  pub worked : (k : ℕ) → k < w → HasWorked net w attempts faults outcomes entries k

-- Working definitions, behind the contract of `run_text`.

-- the seat started the network, by the first entry of all
pub record HasStartedFirst (old new : SeatView) : Type 0 where
  pub number : new.number ≡ old.number
  pub list : new.list ≡ old.list ++ made 1 call.StartNetwork reply.Started ∷ []

-- the seat made the operator's calls behind the boots
pub record HasEnded (faults : SlaveFaults) (outcomes : List Outcome) (old new : SeatView) : Type 0 where
  pub number : new.number ≡ old.number
  pub receipts : List Receipt
  pub count : length receipts ≡ length (calls_behind faults outcomes)
  pub list : new.list ≡ old.list ++ with_receipts (calls_behind faults outcomes) receipts

-- the buses of w workers
abbrev pub AreBusesOf : Network → ℕ → SlaveFaults → List SimBus → Type 0
AreBusesOf net w faults buses = (k : ℕ) (b : SimBus) → k < w → IsBusOf net faults (share w k (listed_ids net)) (slice_index_or buses k b)

-- the seat of worker k of w keeps its number, and its list grew by the calls by which it boots its slaves over this bus
pub record HasBootedBy (net : Network) (w attempts k : ℕ) (outcomes : List Outcome) (old new : SeatView) (bus : SimBus) : Type 0 where
  pub number : new.number ≡ old.number
  pub added : List Made
  pub grown : new.list ≡ old.list ++ added
  pub boots : BootsSlaves net w attempts k outcomes bus added

-- as many seats as there are buses were given, and came back, that of each worker with its calls; the outcomes are theirs
pub record HaveBooted (net : Network) (attempts : ℕ) (given : List SeatView) (buses : List SimBus) (outcomes : List Outcome) (after : List SeatView) : Type 0 where
  pub slaves : map id_of outcomes ≡ listed_ids net
  pub seats : length given ≡ length buses
  pub back : length after ≡ length buses
  pub each : (k : ℕ) (s : SeatView) (b : SimBus) → k < length buses
      → HasBootedBy net (length buses) attempts k (share (length buses) k outcomes) (slice_index_or given k s) (slice_index_or after k s) (slice_index_or buses k b)

-- each worker has booted its slaves over its bus, to its outcomes
abbrev pub HaveWorkedOver : Network → ℕ → List SimBus → List Outcome → List Entry → Type 0
HaveWorkedOver net attempts buses outcomes entries =
    (k : ℕ) (b : SimBus) → k < length buses
    → BootsSlaves net (length buses) attempts k (share (length buses) k outcomes) (slice_index_or buses k b) (calls_of entries (k + 2))

-- the boots came to some outcomes, behind which the operator made its calls
pub record HasRun (net : Network) (attempts : ℕ) (faults : SlaveFaults) (buses : List SimBus) (entries : List Entry) : Type 0 where
  pub outcomes : List Outcome
  pub slaves : map id_of outcomes ≡ listed_ids net
  pub operated : IsOperated faults outcomes entries
  pub worked : HaveWorkedOver net attempts buses outcomes entries
