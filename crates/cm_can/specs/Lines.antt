-- How frames stand in lines of text: those of can-utils (`candump -L`, `canplayer`), and those of a serial adapter (SLCAN).
use Rattle.std.specs.Prelude.{◌≡◌, ◌<◌, ◌≤◌, ◌+◌, ◌-◌, ◌/◌, ◌%◌, ◌⊎◌, ◌≢◌, ℕ, List, [], ◌∷◌, ◌++◌, All, length, slice_index}
use Rattle.cm_text.specs.Hex.{glyph}
use Rattle.cm_can.specs.declared.frame.CanFrame.{CanFrame}
use Rattle.cm_can.specs.declared.frame.Kind.TheVariants.{Data, Remote}
use Rattle.cm_can.specs.Frames.{data_of}

-- the three digits of an identifier of 11 bits
abbrev pub id_digits : ℕ → List ℕ
id_digits n = glyph (n / 256) ∷ glyph (n / 16 % 16) ∷ glyph (n % 16) ∷ []

-- the digits of bytes, two each
abbrev pub byte_digits : List ℕ → List ℕ
byte_digits [] = []
byte_digits (b ∷ bs) = glyph (b / 16) ∷ glyph (b % 16) ∷ byte_digits bs

-- a data frame as can-utils has it: identifier, `#`, bytes
abbrev pub IsDataText : List ℕ → CanFrame → Type 0
IsDataText text f = (f.kind ≡ Data) × (text ≡ id_digits f.id.number ++ 35 ∷ byte_digits (data_of f))

-- what stands behind the `#` of a remote frame: `R`, and the number of bytes that it asks for, which may be left out
abbrev pub IsRemoteTail : List ℕ → Type 0
IsRemoteTail tail = (tail ≡ 82 ∷ []) ⊎ ((count : ℕ) × (count ≤ 8) × (tail ≡ 82 ∷ (48 + count) ∷ []))

-- a remote frame: identifier, `#`, and that
abbrev pub IsRemoteText : List ℕ → CanFrame → Type 0
IsRemoteText text f = (f.kind ≡ Remote) × ((tail : List ℕ) × IsRemoteTail tail × (text ≡ id_digits f.id.number ++ 35 ∷ tail))

-- the text of a frame
abbrev pub IsFrameText : List ℕ → CanFrame → Type 0
IsFrameText text f = IsDataText text f ⊎ IsRemoteText text f

-- bytes are less than 256
abbrev pub AreBytes : List ℕ → Type 0
AreBytes bytes = All (λ b. b < 256) bytes

-- the frames are of one kind, have one identifier, and carry the same bytes
pub record IsSameFrame (f g : CanFrame) : Type 0 where
  pub kind : f.kind ≡ g.kind
  pub id : f.id.number ≡ g.id.number
  pub carried : f.kind ≡ Data → data_of f ≡ data_of g

-- no space (32) is among these bytes
abbrev pub HasNoSpace : List ℕ → Type 0
HasNoSpace text = All (λ b. b ≢ 32) text

-- a time in parentheses
pub record IsTime (text : List ℕ) : Type 0 where
  pub two : 2 ≤ length text
  pub opens : slice_index text 0 ≡ 40
  pub closes : slice_index text (length text - 1) ≡ 41

-- a line of `candump -L`: a time in parentheses, an interface, and what stands for the frame, with one space between two of them
pub record IsLog (line text : List ℕ) : Type 0 where
  pub time : List ℕ
  pub interface : List ℕ
  pub parts : line ≡ time ++ 32 ∷ (interface ++ 32 ∷ text)
  pub unspaced : HasNoSpace time × HasNoSpace interface
  pub timed : IsTime time

-- such a line of a frame
abbrev pub IsLogLine : List ℕ → CanFrame → Type 0
IsLogLine line f = (text : List ℕ) × IsLog line text × IsFrameText text f

-- a data frame as a serial adapter has it (SLCAN): `t`, identifier, the number of bytes, the bytes
abbrev pub IsAdapterData : List ℕ → CanFrame → Type 0
IsAdapterData text f = (f.kind ≡ Data) × (text ≡ 116 ∷ id_digits f.id.number ++ (48 + length (data_of f)) ∷ byte_digits (data_of f))

-- a remote frame: `r`, identifier, the number of bytes that it asks for
abbrev pub IsAdapterRemote : List ℕ → CanFrame → Type 0
IsAdapterRemote text f = (f.kind ≡ Remote) × ((count : ℕ) × (count ≤ 8) × (text ≡ 114 ∷ id_digits f.id.number ++ (48 + count) ∷ []))

-- the text of a frame there
abbrev pub IsAdapterText : List ℕ → CanFrame → Type 0
IsAdapterText text f = IsAdapterData text f ⊎ IsAdapterRemote text f
