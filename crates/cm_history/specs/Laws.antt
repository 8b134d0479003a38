-- What holds in every legal history (own, over the procedures of CiA 302-2). A history is given with its newest
-- entry first.
use Rattle.std.specs.Prelude.{◌≡◌, ◌≢◌, ℕ, ◌⊎◌, IsTrue, IsFalse, true, List, [], ◌∷◌, Some}
use Rattle.cm_nmt.specs.NodeId.{IsNodeId}
use Rattle.cm_nmt.specs.declared.state.NmtState.TheVariants as state
use Rattle.cm_nmt.specs.Bits.{has_bit}
use Rattle.cm_nmt.specs.declared.terms.Terms.{Terms}
use Rattle.cm_nmt.specs.Answers.{id_of}
use Rattle.cm_nmt.specs.Verdict.{judged}
use Rattle.cm_nmt.specs.declared.answers.Answers.{Answers}
use Rattle.cm_nmt.specs.declared.got.Got.{Got}
use Rattle.cm_nmt.specs.declared.got.Got.TheVariants as got
use Rattle.cm_nmt.specs.declared.status.Status.{Status}
use Rattle.cm_nmt.specs.declared.status.Status.TheVariants as status
use Rattle.cm_nmt.specs.Listing.{Listing, is_mandatory}
use Rattle.cm_history.specs.Orders.{is_start_all, is_start_of}
use Rattle.cm_history.specs.History.{clears, is_granted, open_of, own_of, shown}
use Rattle.cm_history.specs.Answering.{answer_of}
use Rattle.cm_history.specs.declared.call.Call.TheVariants as call
use Rattle.cm_history.specs.declared.call.Entry.{Entry}
use Rattle.cm_history.specs.declared.call.Reply.TheVariants as reply

-- the fact holds of each entry and what was before it
abbrev pub AtEach : (Entry → List Entry → Type 0) → List Entry → Type 0
AtEach P [] = Unit {0}
AtEach P (e ∷ past) = P e past × AtEach P past

-- some entry is of this kind, and no later one clears slave i
abbrev pub StandsSince : (Entry → Type 0) → ℕ → List Entry → Type 0
StandsSince P i [] = ⊥
StandsSince P i (e ∷ past) = P e ⊎ (IsFalse (clears e i) × StandsSince P i past)

-- ---- identity

-- where a value is set, and so expected, it is the one that was answered
abbrev pub IsAsExpected : ℕ → Got → Type 0
IsAsExpected expected answered = expected ≢ 0 → answered ≡ got.Value expected

-- each set value of 1F84h to 1F88h is the one that was answered (CiA 302-2)
pub record HasIdentity (t : Terms) (a : Answers) : Type 0 where
  pub device_type : IsAsExpected t.device_type a.device
  pub vendor : IsAsExpected t.vendor (id_of a 0)
  pub product : IsAsExpected t.product (id_of a 1)
  pub revision : IsAsExpected t.revision (id_of a 2)
  pub serial : IsAsExpected t.serial (id_of a 3)

-- ---- no boot starts a slave of wrong identity

-- the entry is a begin of slave i that got a session of this number
pub record IsBeginOf (i number : ℕ) (e : Entry) : Type 0 where
  pub call : e.call ≡ call.Begin i
  pub reply : e.reply ≡ reply.Begun number

-- what holds where the report of a boot of slave i, with this session and these answers, starts it: the slave is listed
-- and to be booted, 1F81h bit 2; the verdict is Ok; its identity is as expected; and its session was begun, and slave i
-- wasn't cleared since
pub record IsRightlyStarted (net : Listing) (i number : ℕ) (a : Answers) (e : Entry) (past : List Entry) : Type 0 where
  pub terms : Terms
  pub listed : net.terms i ≡ Some terms
  pub to_be_booted : has_bit terms.assignment.0 2 ≡ true
  pub verdict : judged (Some terms) a ≡ Some status.Ok
  pub reply : e.reply ≡ reply.Reported status.Ok
  pub identity : HasIdentity terms a
  pub begun : StandsSince (IsBeginOf i number) i past

-- a report whose orders start slave i starts it rightly; a start of all is not a boot's start of one slave
abbrev pub StartsRightly : Listing → Entry → List Entry → Type 0
StartsRightly net e past =
    (i number : ℕ) (a : Answers) → e.call ≡ call.Report i number a → IsTrue (is_start_of e.orders i)
    → IsRightlyStarted net i number a e past

-- ---- the network becomes operational with every mandatory slave booted

-- the entry is a report of slave i that was granted, and shows the identity that is expected
pub record ShowsIdentity (t : Terms) (i : ℕ) (e : Entry) : Type 0 where
  pub number : ℕ
  pub answers : Answers
  pub status : Status
  pub call : e.call ≡ call.Report i number answers
  pub reply : e.reply ≡ reply.Reported status
  pub identity : HasIdentity t answers

-- no mandatory slave is open, and each one that is to be booted, 1F81h bit 2, has shown its identity since it was last
-- cleared
pub record IsAllThere (net : Listing) (past : List Entry) : Type 0 where
  pub none_open : open_of net past ≡ []
  pub shown : (i : ℕ) (t : Terms) → IsNodeId i → net.terms i ≡ Some t → IsTrue (is_mandatory net i) → has_bit t.assignment.0 2 ≡ true
      → StandsSince (ShowsIdentity t i) i past

-- the manager itself becomes operational with the entry
pub record GoesOperational (net : Listing) (e : Entry) (past : List Entry) : Type 0 where
  pub after : own_of net (e ∷ past) ≡ state.Operational
  pub before : own_of net past ≢ state.Operational

-- where the manager becomes operational, and where the orders are a start of all, every mandatory slave is there
abbrev pub BecomesOperationalRightly : Listing → Entry → List Entry → Type 0
BecomesOperationalRightly net e past = GoesOperational net e past ⊎ IsTrue (is_start_all e.orders) → IsAllThere net (e ∷ past)

-- ---- what a read shows

-- a read of the node is refused, or answered with what the history shows of the node
abbrev pub ReadsShow : Listing → List Entry → ℕ → Type 0
ReadsShow net past t =
    let r = (answer_of net past (call.Read t)).0 in
    IsTrue (is_granted r) → r ≡ reply.State (shown net past t)
