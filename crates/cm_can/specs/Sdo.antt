-- Expedited SDO transfers of a node (CiA 301, SDO protocol): eight bytes each way, a command, the object's index and sub-index,
-- and four bytes of data, all with the low byte first.
use Rattle.std.specs.Prelude.{◌≡◌, ◌==◌, ◌+◌, ◌%◌, ◌^◌, ℕ, List, [], ◌∷◌, ◌++◌, Option, Some, None, if◌then◌else◌, length, take, drop}
use Rattle.std.specs.Int.{w16, w32, to_le_bytes, from_le_bytes}
use Rattle.cm_can.specs.declared.frame.CanFrame.{CanFrame}
use Rattle.cm_can.specs.declared.frame.Kind.TheVariants.{Data}
use Rattle.cm_can.specs.Frames.{IsData, data_of}

-- the eight bytes
abbrev pub sdo_bytes : ℕ → ℕ → ℕ → ℕ → List ℕ
sdo_bytes command index sub word = command ∷ to_le_bytes w16 index ++ sub ∷ to_le_bytes w32 word

-- what a client sends to a node: identifier 600h + node-ID
abbrev pub IsFromClient : ℕ → ℕ → ℕ → ℕ → ℕ → CanFrame → Type 0
IsFromClient node command index sub word f = IsData f (0x0600 + node) (sdo_bytes command index sub word)

-- what the node's server sends: identifier 580h + node-ID; its four bytes of data are this number
pub record IsFromServer (node command index sub word : ℕ) (f : CanFrame) : Type 0 where
  pub carries : f.kind ≡ Data
  pub id : f.id.number ≡ 0x0580 + node
  pub eight : length (data_of f) ≡ 8
  pub head : take 4 (data_of f) ≡ command ∷ to_le_bytes w16 index ++ sub ∷ []
  pub word_is : word ≡ from_le_bytes w32 (drop 4 (data_of f))

-- the value of an upload's answer, by its command: 43h, 47h, 4Bh, 4Fh with 4, 3, 2, 1 bytes of data, and 42h without a size,
-- of which all four are taken (own)
abbrev pub uploaded : ℕ → ℕ → Option ℕ
uploaded command word =
    if command == 0x43 then Some word
    else if command == 0x42 then Some word
    else if command == 0x47 then Some (word % 2 ^ 24)
    else if command == 0x4B then Some (word % 2 ^ 16)
    else if command == 0x4F then Some (word % 2 ^ 8)
    else None

-- the command of a download, by the size of the value: 2Fh, 2Bh, 23h with 1, 2, 4 bytes
abbrev pub download_command : ℕ → ℕ
download_command size = if size == 1 then 0x2F else if size == 2 then 0x2B else 0x23
