-- What is sent beside NMT messages (CiA 301).
use Rattle.std.specs.Prelude.{◌≡◌, ◌≤◌, ℕ}
use Rattle.cm_can.specs.declared.frame.CanFrame.{CanFrame}
use Rattle.cm_can.specs.declared.frame.Kind.TheVariants.{Data, Remote}

-- a data frame to the SDO server of a node, 601h to 67Fh, or a remote frame that asks a node for its state, 701h to 77Fh: neither
-- is an NMT message
abbrev pub IsToNode : CanFrame → Type 0
IsToNode f =
    (f.kind ≡ Data → (0x0601 ≤ f.id.number) × (f.id.number ≤ 0x067F))
    × (f.kind ≡ Remote → (0x0701 ≤ f.id.number) × (f.id.number ≤ 0x077F))

-- a frame of error control, 701h to 77Fh: a heartbeat, a boot-up message, or a remote frame that asks a node for its state
abbrev pub IsErrorControlFrame : CanFrame → Type 0
IsErrorControlFrame f = (0x0701 ≤ f.id.number) × (f.id.number ≤ 0x077F)
