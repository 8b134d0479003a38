-- NMT messages and error control (CiA 301): identifier 000h, and 700h + node-ID.
use Rattle.std.specs.Prelude.{◌+◌, ℕ, [], ◌∷◌}
use Rattle.cm_nmt.specs.NodeId.{IsNodeId}
use Rattle.cm_can.specs.declared.frame.CanFrame.{CanFrame}
use Rattle.cm_can.specs.Frames.{IsData}

-- an error control message of the node with this byte: its heartbeat, its boot-up message, or its answer to a guard request
abbrev pub IsErrorControl : ℕ → ℕ → CanFrame → Type 0
IsErrorControl node byte f = IsNodeId node × IsData f (0x0700 + node) (byte ∷ [])
