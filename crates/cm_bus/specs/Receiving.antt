-- What was heard of a slave among the frames that stand in the text that is received (own, over CiA 301 and CiA 302-2, boot slave).
use Rattle.std.specs.Prelude.{◌≡◌, ◌≢◌, ◌<◌, ◌≤◌, ◌⊎◌, ◌==◌, ℕ, Bool, List, [], ◌∷◌, Option, Some, IsFalse, IsTrue, MatchBool}
use Rattle.cm_nmt.specs.declared.terms.Terms.{Terms}
use Rattle.cm_nmt.specs.declared.answers.Answers.{Answers}
use Rattle.cm_netlist.specs.Network.{Network, entry, terms}
use Rattle.cm_boot.specs.Questions.{device_type, vendor_id, product_code, revision_number, serial_number}
use Rattle.cm_boot.specs.Talk.{asked}
use Rattle.cm_boot.specs.declared.question.Question.{Question}
use Rattle.cm_boot.specs.declared.question.Answer.{Answer}
use Rattle.cm_boot.specs.declared.question.Answer.TheVariants as answer
use Rattle.cm_can.specs.declared.frame.CanFrame.{CanFrame}
use Rattle.cm_can.specs.Questions.{IsAnswer}
use Rattle.cm_history.specs.Orders.{is_start_of}
use Rattle.cm_history.specs.declared.call.Call.{Call}
use Rattle.cm_history.specs.declared.call.Call.TheVariants as call
use Rattle.cm_history.specs.declared.call.Entry.{Entry}
use Rattle.cm_bus.specs.Sent.{sent_in}
use Rattle.cm_bus.specs.Talk.{IsAsked}
use Rattle.cm_bus.specs.declared.event.PortEvent.{PortEvent}
use Rattle.cm_can.specs.declared.format.Format.{Format}
use Rattle.cm_receiving.specs.Places.{NoBootUp, StandsIn}

-- what a contract sees of a worker's bus: its log, the place behind which the next frame is heard, the one behind which the answers of
-- the last boot are, whether that boot goes on: its first question was asked, and its end didn't come yet; and its port
pub record BusView (P : Type 0) : Type 0 where
  pub log : List PortEvent
  pub heard : ℕ
  pub begun : ℕ
  pub goes_on : Bool
  pub port : P

-- a frame that stands in the text, behind the place `from` and at `upto` at the latest, answers the question to the node, with
-- this answer; between `begun` and the frame no boot-up message of the node stands
pub record IsHeard (format : Format) (text : Option (List ℕ)) (node : ℕ) (q : Question) (x : Answer) (begun from upto : ℕ) : Type 0 where
  pub place : ℕ
  pub frame : CanFrame
  pub behind : from < place
  pub within : place ≤ upto
  pub stands : StandsIn format text place frame
  pub answers : IsAnswer node q frame x
  pub same : NoBootUp format text node begun place

-- the answer to the question was silence, or such a frame gave it
pub record IsGiven (format : Format) (text : Option (List ℕ)) (node : ℕ) (q : Question) (x : Answer) (begun from upto : ℕ) : Type 0 where
  pub on : from ≤ upto
  pub given : (x ≡ answer.Silent) ⊎ IsHeard format text node q x begun from upto

-- a worker's bus put a question to the node, and this is the answer: the boot goes on with it, or begins with it, at the place behind
-- which its answer is heard
pub record IsPut {P : Type 0} (format : Format) (text : Option (List ℕ)) (node : ℕ) (q : Question) (x : Answer) (b c : BusView P) : Type 0 where
  pub from : ℕ
  pub on : b.heard ≤ from
  pub begins : IsFalse b.goes_on → c.begun ≡ from
  pub goes_on : IsTrue b.goes_on → c.begun ≡ b.begun
  pub still : IsTrue c.goes_on
  pub given : IsGiven format text node q x c.begun from c.heard

-- a worker's bus whose boot has ended, and which is else as it was
pub record EndsBoot {P : Type 0} (b c : BusView P) : Type 0 where
  pub log : c.log ≡ b.log
  pub heard : c.heard ≡ b.heard
  pub ended : IsFalse c.goes_on
  pub port : c.port ≡ b.port

-- a question to the node was asked over a worker's bus, and this is the answer: the log has its talk, and the port sent the frames of
-- this talk, each once, and no other; and how the answer was heard
pub record IsAskedOver {P : Type 0} (sends : P → List CanFrame → P → Type 0) (format : Format) (text : Option (List ℕ)) (node : ℕ) (q : Question)
    (x : Answer) (b c : BusView P) : Type 0 where
  pub asked : IsAsked node q x b.log c.log
  pub sent : sends b.port (sent_in asked.talk) c.port
  pub put : IsPut format text node q x b c

-- the answers to these questions were given so, each behind the one before
abbrev pub AreGiven : Format → Option (List ℕ) → ℕ → ℕ → List (Question × Answer) → ℕ → ℕ → Type 0
AreGiven format text node begun [] from upto = from ≤ upto
AreGiven format text node begun (qx ∷ rest) from upto =
    (mid : ℕ) × IsGiven format text node qx.0 qx.1 begun from mid × AreGiven format text node begun rest mid upto

-- ---- what that says of the starts in a history, whose oldest entry comes first

-- the value that is expected, where one is, was heard as the answer to this question
pub record IsHeardAs (format : Format) (text : Option (List ℕ)) (node : ℕ) (q : Question) (expected begun from upto : ℕ) : Type 0 where
  pub on : from ≤ upto
  pub heard : expected ≢ 0 → IsHeard format text node q (answer.Value expected) begun from upto

-- each set value of 1F84h to 1F88h was heard from the node, each behind the one before
pub record HasHeardIdentity (format : Format) (text : Option (List ℕ)) (t : Terms) (node begun from upto : ℕ) : Type 0 where
  pub first : ℕ
  pub second : ℕ
  pub third : ℕ
  pub fourth : ℕ
  pub device_type : IsHeardAs format text node device_type t.device_type begun from first
  pub vendor : IsHeardAs format text node vendor_id t.vendor begun first second
  pub product : IsHeardAs format text node product_code t.product begun second third
  pub revision : IsHeardAs format text node revision_number t.revision begun third fourth
  pub serial : IsHeardAs format text node serial_number t.serial begun fourth upto

-- where the entry is a report whose orders start its slave, the slave is listed, its identity was heard, and so was each answer of
-- the boot, but silence: from the place at which it began to each of them no boot-up message of the slave stands
abbrev pub IsHeardStart : Format → Option (List ℕ) → Network → Entry → ℕ → ℕ → Type 0
IsHeardStart format text net e from upto =
    (i number : ℕ) (a : Answers) → e.call ≡ call.Report i number a → IsTrue (is_start_of e.orders i)
    → (t : Terms) × (terms net i ≡ Some t) × (begun : ℕ) × (from ≤ begun)
    × HasHeardIdentity format text t i begun begun upto × AreGiven format text i begun (asked (entry net i) a) begun upto

-- so it is with each entry of the seat, behind what was heard for those before it
abbrev pub AreHeardStarts : Format → Option (List ℕ) → Network → ℕ → List Entry → ℕ → Type 0
AreHeardStarts format text net seat [] from = Unit {0}
AreHeardStarts format text net seat (e ∷ es) from =
    MatchBool (e.seat == seat)
    ((upto : ℕ) × (from ≤ upto) × IsHeardStart format text net e from upto × AreHeardStarts format text net seat es upto)
    (AreHeardStarts format text net seat es from)

-- and so for each seat, from the beginning of the text
abbrev pub AllStartsHeard : Format → Option (List ℕ) → Network → List Entry → Type 0
AllStartsHeard format text net entries = (seat : ℕ) → AreHeardStarts format text net seat entries 0
