-- Working definitions, behind the contracts of private functions: the writes that are made of a device file (own).
use Rattle.std.specs.Prelude.{◌≡◌, ℕ, List, [], ◌∷◌, ◌++◌, codes, drop, length, take}
use Rattle.std.specs.List.{All}
use Rattle.cm_nmt.specs.Write.{write_with}
use Rattle.cm_nmt.specs.declared.write.Write.{Write}
use Rattle.cm_device.specs.DeviceFiles.{AreSame, Has, IsPlain, IsWritten, behind_mark}
use Rattle.cm_device.specs.FileValues.{IsSetting, IsValueKey, IsValueOf}
use Rattle.cm_device.specs.declared.device_file.Item.{Item}
use Rattle.cm_device.specs.declared.settings.Setting.{Setting}
use Rattle.cm_device.specs.declared.settings.Settings.{Settings}
use Rattle.cm_device.specs.declared.settings_values.Value.{Value}

-- this holds of each write
abbrev pub AllWrites : (Write → Type 0) → Settings → Type 0
AllWrites P settings = All (λ s. P s.write) settings.settings.items

-- the item is a key of the file with its value
abbrev pub IsOf : List ℕ → Item → Type 0
IsOf file item = Has (behind_mark file) item.section.now item.key.now item.value.now

-- the item is a value of the object that the described section describes
pub record Gives (file : List ℕ) (value : Value) : Type 0 where
  pub has : IsOf file value.item
  pub key_is : IsValueKey file value.object.0 value.object.1 value.item.section.now value.item.key.now value.described.section.now

-- just this write was added behind the others
abbrev pub HasAdded : Settings → Settings → Write → Type 0
HasAdded old new w = (s : Setting) × (s.write ≡ w) × (new.settings.items ≡ old.settings.items ++ s ∷ [])

-- each value that may be written of this one is the file's
abbrev pub MaySet : List ℕ → ℕ → ℕ × ℕ → ℕ × ℕ → Type 0
MaySet file node object value =
    (v : ℕ) → IsValueOf object.0 object.1 value.1 v → IsSetting file node (write_with object.0 object.1 value.0 v)

-- the section gives this data type
pub record IsTypeOf (file section : List ℕ) (data_type : ℕ) : Type 0 where
  pub key : List ℕ
  pub written : List ℕ
  pub has : Has (behind_mark file) section key written
  pub key_is : AreSame key (codes "DataType")
  pub plain : IsPlain written data_type

-- the section is that of an object's values, in any letters
pub record IsValueSection (section : List ℕ) (index : ℕ) : Type 0 where
  pub parts : section ≡ take 4 section ++ drop 4 section
  pub four : length (take 4 section) ≡ 4
  pub word_is : AreSame (drop 4 section) (codes "Value")
  pub index_is : IsWritten 16 (take 4 section) index
