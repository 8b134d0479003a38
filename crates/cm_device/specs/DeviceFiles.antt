-- What a device file says, an electronic data sheet or a device configuration file (CiA 306).
use Rattle.std.specs.Prelude.{◌≡◌, ◌⊎◌, ◌+◌, ◌*◌, ◌<◌, ◌≤◌, ◌^◌, ◌==◌, ◌||◌, ℕ, if◌then◌else◌, List, [], ◌∷◌, ◌++◌, Option, Some, None, bytes_eq, codes, drop, get_or, length, map, take, to_bits}
use Rattle.std.specs.Float.{Float, binary32}
use Rattle.std.specs.Float.Parse.{parse_float}
use Rattle.std.specs.Str.{IsTrimAscii}
use Rattle.std.specs.Str.Parse.{IsNumeral, digits_value}
use Rattle.std.specs.Char.{to_ascii_lowercase}
use Rattle.cm_text.specs.Words.{split}

-- the names are the same but for capital and small letters (ASCII)
abbrev pub AreSame : List ℕ → List ℕ → Type 0
AreSame one other = map to_ascii_lowercase one ≡ map to_ascii_lowercase other

-- the bytes behind a byte order mark (EFh, BBh, BFh), if there is one
abbrev pub behind_mark : List ℕ → List ℕ
behind_mark file = if bytes_eq (take 3 file) (239 ∷ 187 ∷ 191 ∷ []) then drop 3 file else file

-- ---- lines

-- the line at this place, from 0 on, as far as its first semicolon, behind which a comment stands, and without white space at its ends
pub record IsLine (file : List ℕ) (place : ℕ) (text : List ℕ) : Type 0 where
  pub raw : List ℕ
  pub there : raw ≡ get_or (split 59 (get_or (split 10 file) place [])) 0 []
  pub trimmed : IsTrimAscii raw text

-- the text begins a section of this name
pub record BeginsSection (text name : List ℕ) : Type 0 where
  pub raw : List ℕ
  pub brackets : text ≡ codes "[" ++ (raw ++ codes "]")
  pub trimmed : IsTrimAscii raw name

-- the text is a key with its value, which stands behind the first = and before a second one
pub record IsEntry (text key value : List ℕ) : Type 0 where
  pub front : List ℕ
  pub back : List ℕ
  pub others : List (List ℕ)
  pub parts : split 61 text ≡ front ∷ back ∷ others
  pub key_is : IsTrimAscii front key
  pub value_is : IsTrimAscii back value

-- the line at this place begins no section
pub record IsNoHead (file : List ℕ) (place : ℕ) : Type 0 where
  pub text : List ℕ
  pub there : IsLine file place text
  pub none : (name : List ℕ) → BeginsSection text name → ⊥

-- the line at this place begins the section of this name, and no line behind it and before the place `to` begins another
pub record IsIn (file : List ℕ) (head to : ℕ) (section : List ℕ) : Type 0 where
  pub before : head < to
  pub text : List ℕ
  pub there : IsLine file head text
  pub begins : BeginsSection text section
  pub same : (k : ℕ) → head < k → k < to → IsNoHead file k

-- a key stands with its value in the section of this name
pub record Has (file section key value : List ℕ) : Type 0 where
  pub head : ℕ
  pub place : ℕ
  pub inside : IsIn file head place section
  pub text : List ℕ
  pub there : IsLine file place text
  pub entry : IsEntry text key value
  pub no_head : (name : List ℕ) → BeginsSection text name → ⊥

-- ---- numbers

-- the digits are the number in this base, and it has 32 bits at most
pub record IsWritten (base : ℕ) (digits : List ℕ) (n : ℕ) : Type 0 where
  pub numeral : IsNumeral base digits
  pub value : n ≡ digits_value base digits
  pub small : n < 2 ^ 32

-- the base and the digits of a number as C has it: behind 0x 16, behind another 0 8, else 10
abbrev pub base_and_digits : List ℕ → ℕ × List ℕ
base_and_digits (a ∷ b ∷ rest) =
    if a == 48 then (if b == 120 || b == 88 then (16, rest) else (8, b ∷ rest)) else (10, a ∷ b ∷ rest)
base_and_digits text = (10, text)

-- the text is a number by itself
abbrev pub IsPlain : List ℕ → ℕ → Type 0
IsPlain text n = IsWritten (base_and_digits text).0 (base_and_digits text).1 n

-- the text stands for the node-ID
abbrev pub IsNodeId : List ℕ → Type 0
IsNodeId text = AreSame text (codes "$NODEID")

-- one of the texts stands for the node-ID, and the other one is this number by itself
abbrev pub IsBesideId : List ℕ → List ℕ → ℕ → Type 0
IsBesideId one other plain = (IsNodeId one × IsPlain other plain) ⊎ (IsNodeId other × IsPlain one plain)

-- one of the texts is a number and the other one the node-ID, and this is their sum
pub record AreSummed (node : ℕ) (one other : List ℕ) (n : ℕ) : Type 0 where
  pub plain : ℕ
  pub which : IsBesideId one other plain
  pub sum : n ≡ plain + node
  pub small : n < 2 ^ 32

-- the text is such a sum, with a + between
pub record IsSum (node : ℕ) (text : List ℕ) (n : ℕ) : Type 0 where
  pub front : List ℕ
  pub back : List ℕ
  pub parts : split 43 text ≡ front ∷ back ∷ []
  pub one : List ℕ
  pub other : List ℕ
  pub one_is : IsTrimAscii front one
  pub other_is : IsTrimAscii back other
  pub summed : AreSummed node one other n

-- the number of a value of the device of this node-ID
abbrev pub IsNumber : ℕ → List ℕ → ℕ → Type 0
IsNumber node text n = IsSum node text n ⊎ ((IsNodeId text × (n ≡ node)) ⊎ IsPlain text n)

-- the text is no number, for the device of this node-ID
abbrev pub IsNoNumber : ℕ → List ℕ → Type 0
IsNoNumber node text = (n : ℕ) → IsNumber node text n → ⊥

-- ---- objects

-- four digits of an index, the word sub in any letters, and the digits of a sub-index
pub record HasSub (section : List ℕ) (index sub : ℕ) : Type 0 where
  pub digits : List ℕ
  pub word : List ℕ
  pub rest : List ℕ
  pub parts : section ≡ digits ++ (word ++ rest)
  pub four : length digits ≡ 4
  pub word_is : AreSame word (codes "sub")
  pub index_is : IsWritten 16 digits index
  pub sub_is : IsWritten 16 rest sub

-- the section is named for the object of this index and sub-index: by four digits for sub-index 0, or by those and a sub-index
abbrev pub IsObject : List ℕ → ℕ × ℕ → Type 0
IsObject section object =
    ((length section ≡ 4) × IsWritten 16 section object.0 × (object.1 ≡ 0)) ⊎ HasSub section object.0 object.1

-- the size in bytes of a data type that a write can have (CiA 301): BOOLEAN, INTEGER8, UNSIGNED8; INTEGER16, UNSIGNED16; INTEGER32,
-- UNSIGNED32, REAL32
abbrev pub size_of : ℕ → Option ℕ
size_of t =
    if t == 1 || (t == 2 || t == 5) then Some 1
    else (if t == 3 || t == 6 then Some 2 else (if t == 4 || (t == 7 || t == 8) then Some 4 else None))

-- half of the numbers of a data type of this size: so many of a signed one are below 0
abbrev pub half_of : ℕ → ℕ
half_of size = if size == 1 then 128 else (if size == 2 then 32768 else 2147483648)

-- the text is a number below 0, and this is its two's complement in so many bytes
pub record IsNegative (size : ℕ) (text : List ℕ) (n : ℕ) : Type 0 where
  pub digits : List ℕ
  pub below : ℕ
  pub parts : text ≡ 45 ∷ digits
  pub plain : IsPlain digits below
  pub some : 0 < below
  pub small : below ≤ half_of size
  pub complement : n + below ≡ 2 * half_of size

-- the text is a real number in base 10, and these are the bits of the nearest one of 32 bits (IEEE 754)
pub record IsReal (text : List ℕ) (n : ℕ) : Type 0 where
  pub x : Float
  pub parsed : parse_float binary32 text ≡ Some x
  pub bits : n ≡ to_bits binary32 x

-- the text is a number of this data type and size, in these bits (CiA 301: INTEGER8, INTEGER16 and INTEGER32 are signed, REAL32 is a real
-- number, whose bits may also be given, in base 16)
abbrev pub IsTypedNumber : ℕ → ℕ → ℕ → List ℕ → ℕ → Type 0
IsTypedNumber data_type size node text n =
    ((data_type ≡ 8) × (IsReal text n ⊎ (((base_and_digits text).0 ≡ 16) × IsPlain text n)))
    ⊎ (((data_type ≡ 8 → ⊥) × IsNumber node text n) ⊎ (((2 ≤ data_type) × (data_type ≤ 4)) × IsNegative size text n))
