-- The values that a device file gives its device (CiA 306; the order of the writes that are made of them is CiA 301's, and in no clause).
use Rattle.std.specs.Prelude.{◌≡◌, ◌⊎◌, ◌≤◌, ◌/◌, ◌==◌, ◌&&◌, ◌||◌, ℕ, Bool, true, List, [], ◌++◌, Some, bit_or, codes, length}
use Rattle.cm_nmt.specs.declared.write.Write.{Write}
use Rattle.cm_device.specs.DeviceFiles.{AreSame, Has, IsNoNumber, IsNumber, IsObject, IsPlain, IsTypedNumber, IsWritten, behind_mark, size_of}

-- the text is a number of the data type that the section gives, in so many bytes
pub record IsTyped (file section : List ℕ) (node : ℕ) (text : List ℕ) (size n : ℕ) : Type 0 where
  pub key : List ℕ
  pub written : List ℕ
  pub data_type : ℕ
  pub has : Has (behind_mark file) section key written
  pub key_is : AreSame key (codes "DataType")
  pub plain : IsPlain written data_type
  pub is : size_of data_type ≡ Some size
  pub number : IsTypedNumber data_type size node text n

-- the object is the COB-ID of a PDO (CiA 301: 1400h to 15FFh, 1800h to 19FFh, sub-index 1)
abbrev pub is_cob_id : ℕ → ℕ → Bool
is_cob_id index sub = (index / 512 == 10 || index / 512 == 12) && sub == 1

-- the object is the number of objects that are mapped to a PDO (CiA 301: 1600h to 17FFh, 1A00h to 1BFFh, sub-index 0)
abbrev pub is_count : ℕ → ℕ → Bool
is_count index sub = (index / 512 == 11 || index / 512 == 13) && sub == 0

-- the key gives the value of the object; where no key gives that of a COB-ID or of the number of mapped objects, its default counts
abbrev pub IsKeyOf : ℕ → ℕ → List ℕ → Type 0
IsKeyOf index sub key =
    AreSame key (codes "ParameterValue") ⊎ (((is_cob_id index sub || is_count index sub) ≡ true) × AreSame key (codes "DefaultValue"))

-- the key is the value of a sub-index that has no section of its own, in the section of such values of its object; the object's own
-- section, described, says how many of them there are
pub record IsCompact (file section key described : List ℕ) (index sub : ℕ) : Type 0 where
  pub digits : List ℕ
  pub word : List ℕ
  pub parts : section ≡ digits ++ word
  pub four : length digits ≡ 4
  pub word_is : AreSame word (codes "Value")
  pub index_is : IsWritten 16 digits index
  pub sub_is : IsPlain key sub
  pub described_is : AreSame described digits
  pub written : List ℕ
  pub text : List ℕ
  pub has : Has (behind_mark file) described written text
  pub key_is : AreSame written (codes "CompactSubObj")
  pub count : ℕ
  pub count_is : IsPlain text count
  pub inside : (1 ≤ sub) × (sub ≤ count)

-- the key gives a value of the object, whose data type stands in the section that describes it
abbrev pub IsValueKey : List ℕ → ℕ → ℕ → List ℕ → List ℕ → List ℕ → Type 0
IsValueKey file index sub section key described =
    (IsKeyOf index sub key × (IsObject section (index, sub) × (described ≡ section))) ⊎ IsCompact file section key described index sub

-- what is written of the number that the file gives: that number; of a COB-ID also with bit 31, by which its PDO is off, and of the
-- number of mapped objects also 0, both before the PDO is set
abbrev pub IsValueOf : ℕ → ℕ → ℕ → ℕ → Type 0
IsValueOf index sub n value =
    (value ≡ n) ⊎ (((is_cob_id index sub ≡ true) × (value ≡ bit_or n 2147483648)) ⊎ ((is_count index sub ≡ true) × (value ≡ 0)))

-- the write is of a value that the file gives the device of this node-ID
pub record IsSetting (file : List ℕ) (node : ℕ) (w : Write) : Type 0 where
  pub section : List ℕ
  pub key : List ℕ
  pub text : List ℕ
  pub described : List ℕ
  pub n : ℕ
  pub has : Has (behind_mark file) section key text
  pub key_is : IsValueKey file w.index w.sub section key described
  pub typed : IsTyped file described node text w.size n
  pub value : IsValueOf w.index w.sub n w.value

-- ---- what stands under a key

-- this text, which isn't empty, stands in the file under this key in a section of this name
pub record Stands (file name key text : List ℕ) : Type 0 where
  pub section : List ℕ
  pub written : List ℕ
  pub has : Has (behind_mark file) section written text
  pub section_is : AreSame section name
  pub key_is : AreSame written key
  pub some : text ≡ [] → ⊥

-- no text stands there
abbrev pub StandsNone : List ℕ → List ℕ → List ℕ → Type 0
StandsNone file name key = (text : List ℕ) → Stands file name key text → ⊥

-- the file gives this number under this key in a section of this name
pub record IsGiven (file : List ℕ) (node : ℕ) (name key : List ℕ) (n : ℕ) : Type 0 where
  pub text : List ℕ
  pub stands : Stands file name key text
  pub number : IsNumber node text n

-- a text that is no number stands in the file under this key in a section of this name
pub record StandsUnread (file : List ℕ) (node : ℕ) (name key : List ℕ) : Type 0 where
  pub text : List ℕ
  pub stands : Stands file name key text
  pub none : IsNoNumber node text
