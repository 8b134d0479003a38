-- What an operator types, and which calls rest on it (own).
use Rattle.std.specs.Prelude.{◌≡◌, ◌<◌, ◌≤◌, ℕ, List, [], ◌∷◌, All, Option, Some, ◌⊎◌}
use Rattle.cm_nmt.specs.NodeId.{IsNodeId}
use Rattle.cm_history.specs.declared.call.Call.{Call}
use Rattle.cm_history.specs.declared.call.Call.TheVariants as call
use Rattle.cm_history.specs.declared.call.Reply.TheVariants as reply
use Rattle.cm_receiving.specs.Places.{LineStandsIn}
use Rattle.cm_register.specs.SeatCalls.{made}
use Rattle.cm_register.specs.declared.made.Made.{Made}
use Rattle.cm_operator.specs.Console.{asked_by}
use Rattle.cm_operator.specs.declared.console.Command.{Command}
use Rattle.cm_operator.specs.declared.console.Command.TheVariants.{Make, Request, Start}

-- what is typed asks for this call: for itself, for the request that it is, or for a start, which is that of the network or of all nodes
abbrev pub Asks : Option Command → Call → Type 0
Asks (Some (Make d)) c = d ≡ c
Asks (Some (Request t v)) c = call.Request t v ≡ c
Asks (Some Start) c = (call.StartNetwork ≡ c) ⊎ (call.Request 128 5 ≡ c)
Asks _ c = ⊥

-- the line asks for this call
abbrev pub SpellsCall : List ℕ → Call → Type 0
SpellsCall line c = Asks (asked_by line) c

-- the request wakes a slave: it asks one node to enter pre-operational, by the value 127 (CiA 302-2, request NMT)
abbrev pub IsWake : ℕ → ℕ → Type 0
IsWake target value = IsNodeId target × (value ≡ 127)

-- a call that is made though no line asks for it: that a slave is lost, or has signalled something, that time went by, or a request that
-- wakes a slave
abbrev pub IsUntyped : Call → Type 0
IsUntyped (call.Lost i) = Unit {0}
IsUntyped (call.Signal i b) = Unit {0}
IsUntyped (call.Elapsed ms) = Unit {0}
IsUntyped (call.Request t v) = IsWake t v
IsUntyped _ = ⊥

-- a line that asks for the call stands in what is typed at the place `upto`, which is behind `from`
abbrev pub IsTypedLine : Option (List ℕ) → Call → ℕ → ℕ → Type 0
IsTypedLine typed c from upto = (from < upto) × (line : List ℕ) × SpellsCall line c × LineStandsIn typed upto line

-- a call is typed so, or it is one that no line asks for
abbrev pub IsTypedCall : Option (List ℕ) → Call → ℕ → ℕ → Type 0
IsTypedCall typed c from upto = IsTypedLine typed c from upto ⊎ (IsUntyped c × (from ≤ upto))

-- and so for the calls of a list, each typed line behind the one before
abbrev pub AreTyped : Option (List ℕ) → List Made → ℕ → ℕ → Type 0
AreTyped typed [] from upto = from ≤ upto
AreTyped typed (m ∷ ms) from upto = (mid : ℕ) × IsTypedCall typed m.call from mid × AreTyped typed ms mid upto

-- the first of these calls is that by which the network was started, the first entry of all
abbrev pub BeginsWithStart : List Made → Type 0
BeginsWithStart [] = ⊥
BeginsWithStart (m ∷ ms) = m ≡ made 1 call.StartNetwork reply.Started

-- the calls behind the first
abbrev pub behind_first : List Made → List Made
behind_first [] = []
behind_first (m ∷ ms) = ms

-- the call is one of a boot: its begin, or its report
abbrev pub IsOfBoot : Call → Type 0
IsOfBoot (call.Begin i) = Unit {0}
IsOfBoot (call.Report i n a) = Unit {0}
IsOfBoot _ = ⊥

-- none of these calls is another
abbrev pub IsMadeInBoot : Made → Type 0
IsMadeInBoot m = IsOfBoot m.call

abbrev pub BootsAlone : List Made → Type 0
BootsAlone list = All IsMadeInBoot list
