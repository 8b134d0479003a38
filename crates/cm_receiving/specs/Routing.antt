-- Whom a frame is given to that is received, and what is told of it (own).
use Rattle.std.specs.Prelude.{◌≡◌, ℕ, List, Option, IsSome, Some}
use Rattle.cm_text.specs.FieldReading.{◌>>=◌}
use Rattle.cm_can.specs.Control.{IsErrorControl}
use Rattle.cm_can.specs.declared.frame.CanFrame.{CanFrame}
use Rattle.cm_can.specs.declared.remark.Remark.{Remark}
use Rattle.cm_can.specs.declared.remark.Remark.TheVariants as remark
use Rattle.cm_netlist.specs.Workers.{place_of, worker_of}
use Rattle.cm_receiving.specs.Doubling.{answering, said_in}
use Rattle.cm_receiving.specs.Identifiers.{node_in}
use Rattle.cm_receiving.specs.Places.{PlacedControl}

-- the worker that a frame may be given to: the one that boots the node of which it may answer a question
abbrev pub worker_for : List ℕ → ℕ → CanFrame → Option ℕ
worker_for listed workers f = node_in f.kind f.id.number >>= (λ n. worker_of listed workers n)

-- what may be told of a frame of error control: the message that it is, where its node is listed
abbrev pub IsToldOf : List ℕ → CanFrame → PlacedControl → Type 0
IsToldOf listed f m = IsErrorControl m.node m.byte f × IsSome (place_of m.node listed)

-- that two devices have one node-ID is told of the frame: it is an answer of the SDO server of this node, which is listed
abbrev pub IsDoubledOf : List ℕ → CanFrame → Remark → Type 0
IsDoubledOf listed f r = (node : ℕ) × (r ≡ remark.Doubled node) × (answering (said_in f) ≡ Some node) × IsSome (place_of node listed)
