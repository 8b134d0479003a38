-- The two bytes of an NMT message (CiA 301, NMT node control).
use Rattle.std.specs.Prelude.{◌≡◌, ℕ, List, [], ◌∷◌, Option, Some, None}
use Rattle.cm_nmt.specs.NodeId.{IsNodeId}
use Rattle.cm_nmt.specs.Codes.{specifier_code}
use Rattle.cm_nmt.specs.declared.frame.Frame.{Frame}
use Rattle.cm_nmt.specs.declared.frame.Target.{Target}
use Rattle.cm_nmt.specs.declared.frame.Target.TheVariants.{Node, All}

-- the second byte: the node-ID, or 0 for all nodes
abbrev pub target_byte : Target → ℕ
target_byte (Node id) = id
target_byte All = 0

-- a frame's bytes: command specifier, node-ID
abbrev pub frame_bytes : Frame → List ℕ
frame_bytes frame = specifier_code frame.command ∷ target_byte frame.target ∷ []

-- a frame names one node-ID, or all nodes
abbrev pub IsTarget : Target → Type 0
IsTarget (Node id) = IsNodeId id
IsTarget All = Unit {0}

-- the frame that has these bytes, or that no frame has them
abbrev pub IsFrameRead : List ℕ → Option Frame → Type 0
IsFrameRead bytes (Some frame) = bytes ≡ frame_bytes frame
IsFrameRead bytes None = (frame : Frame) → IsTarget frame.target → bytes ≡ frame_bytes frame → ⊥
