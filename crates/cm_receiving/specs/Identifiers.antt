-- Which frames may answer a question to a node, by their identifiers (CiA 301, pre-defined connection set).
use Rattle.std.specs.Prelude.{◌≡◌, ◌⊎◌, ◌+◌, ◌-◌, ℕ, Option, None}
use Rattle.cm_nmt.specs.NodeId.{IsNodeId}
use Rattle.cm_boot.specs.declared.question.Question.{Question}
use Rattle.cm_boot.specs.declared.question.Question.TheVariants.{Read, Write}
use Rattle.cm_can.specs.declared.frame.CanFrame.{CanFrame}
use Rattle.cm_can.specs.declared.frame.Kind.{Kind}
use Rattle.cm_can.specs.declared.frame.Kind.TheVariants.{Data, Remote}
use Rattle.cm_text.specs.Picked.{first_of, within}

-- the identifier of the frames that may answer a question to the node: 580h + node-ID, which its SDO server sends; for its
-- state and its heartbeat 700h + node-ID, its error control messages (CiA 301, pre-defined connection set)
abbrev pub id_of_answer : ℕ → Question → ℕ
id_of_answer node (Read index sub) = 0x0580 + node
id_of_answer node (Write w) = 0x0580 + node
id_of_answer node _ = 0x0700 + node

-- the node that sends data frames with this identifier, of which it may answer a question: n where it is 580h + n or 700h + n,
-- with n from 1 to 127 (CiA 301, pre-defined connection set)
abbrev pub node_by : ℕ → Option ℕ
node_by id = first_of (within 1 127 (id - 0x0580)) (within 1 127 (id - 0x0700))

-- the node of which a frame may answer a question; a remote frame answers none
abbrev pub node_in : Kind → ℕ → Option ℕ
node_in Data id = node_by id
node_in Remote id = None

-- the frame is a data frame of the node, of which it may answer a question: of its SDO server, with identifier 580h + node-ID, or of
-- its error control, with identifier 700h + node-ID (CiA 301, pre-defined connection set)
abbrev pub IsOfNode : ℕ → CanFrame → Type 0
IsOfNode node f = IsNodeId node × (f.kind ≡ Data) × ((f.id.number ≡ 0x0580 + node) ⊎ (f.id.number ≡ 0x0700 + node))
