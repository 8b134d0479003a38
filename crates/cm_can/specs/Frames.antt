-- CAN frames with an identifier of 11 bits.
use Rattle.std.specs.Prelude.{◌≡◌, ℕ, List, take}
use Rattle.cm_can.specs.declared.frame.CanFrame.{CanFrame}
use Rattle.cm_can.specs.declared.frame.Kind.TheVariants.{Data, Remote}

-- the bytes that a frame carries
abbrev pub data_of : CanFrame → List ℕ
data_of f = take f.len f.bytes

-- a data frame with this identifier and these bytes
abbrev pub IsData : CanFrame → ℕ → List ℕ → Type 0
IsData f id bytes = (f.kind ≡ Data) × (f.id.number ≡ id) × (data_of f ≡ bytes)

-- a remote frame with this identifier
abbrev pub IsRemote : CanFrame → ℕ → Type 0
IsRemote f id = (f.kind ≡ Remote) × (f.id.number ≡ id)
