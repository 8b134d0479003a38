-- Working definitions, behind the contracts of private functions: what a line was read as (own).
use Rattle.std.specs.Prelude.{◌≡◌, ◌⊎◌, ◌<◌, ℕ, List, [], ◌∷◌, ◌++◌, Option, Some, None, All, Contains}
use Rattle.cm_device.specs.DeviceFiles.{AreSame, BeginsSection, Has, IsEntry, IsIn, behind_mark}
use Rattle.cm_device.specs.declared.device_file.Begun.{Begun}
use Rattle.cm_device.specs.declared.device_file.Entry.{Entry}
use Rattle.cm_device.specs.declared.device_file.Item.{Item}
use Rattle.cm_device.specs.declared.device_file.Line.{Line}
use Rattle.cm_device.specs.declared.device_file.Line.TheVariants as line

-- the text begins no section
abbrev pub BeginsNone : List ℕ → Type 0
BeginsNone text = (name : List ℕ) → BeginsSection text name → ⊥

-- the line is what it was read as
abbrev pub IsRead : List ℕ → Line → Type 0
IsRead text line.Nothing = text ≡ []
IsRead text (line.Section name) = BeginsSection text name.now
IsRead text (line.Entry entry) = IsEntry text entry.key.now entry.value.now × BeginsNone text
IsRead text line.Unknown = Unit {0}

-- a key with its value in the section that is begun
abbrev pub item_of : Begun → Entry → ℕ → Item
item_of begun entry line = record { section = begun.name; key = entry.key; value = entry.value; first = begun.first; line = line }

-- the line begins a section, or is empty, or is a key of the section that is begun
abbrev pub IsTaken : List ℕ → List Item → List Item → Option Begun → Option Begun → Type 0
IsTaken text old new begun now =
    ((b : Begun) × BeginsSection text b.name.now × (now ≡ Some b) × (new ≡ old))
    ⊎ (((text ≡ []) × (now ≡ begun) × (new ≡ old))
    ⊎ ((b : Begun) × (e : Entry) × (line : ℕ) × BeginsNone text × IsEntry text e.key.now e.value.now × (begun ≡ Some b) × (now ≡ Some b)
    × (new ≡ old ++ item_of b e line ∷ [])))

-- each item is a key of the file with its value, in its section
abbrev pub AreOf : List ℕ → List Item → Type 0
AreOf file items = All (λ i. Has (behind_mark file) i.section.now i.key.now i.value.now) items

-- an item is this key with this value, in this section
abbrev pub IsAmong : List ℕ → List ℕ → List ℕ → List Item → Type 0
IsAmong section key value items =
    (i : Item) × Contains items i × (i.section.now ≡ section) × (i.key.now ≡ key) × (i.value.now ≡ value)

-- each key of the file with its value is an item
abbrev pub AreAllOf : List ℕ → List Item → Type 0
AreAllOf file items = (section key value : List ℕ) → Has (behind_mark file) section key value → IsAmong section key value items

-- each key on a line before this place is an item
abbrev pub AreAllBefore : List ℕ → ℕ → List Item → Type 0
AreAllBefore file to items = (section key value : List ℕ) → (has : Has file section key value) → has.place < to → IsAmong section key value items

-- the section that is begun is the one that the lines up to this place are in
abbrev pub IsBegun : List ℕ → ℕ → Option Begun → Type 0
IsBegun file to None = Unit {0}
IsBegun file to (Some begun) = (head : ℕ) × IsIn file head to begun.name.now

-- a section has a key of this name, in any letters, with this value
abbrev pub HasKey : List ℕ → List ℕ → List ℕ → List ℕ → Type 0
HasKey file section name value = (key : List ℕ) × Has (behind_mark file) section key value × AreSame key name

-- a section of this name, in any letters, has such a key
abbrev pub IsValueIn : List ℕ → List ℕ → List ℕ → List ℕ → Type 0
IsValueIn file name key value = (section : List ℕ) × AreSame section name × HasKey file section key value

-- an item isn't this key in a section of this name, or its value is empty
abbrev pub IsOther : List ℕ → List ℕ → Item → Type 0
IsOther name key item = AreSame item.section.now name → AreSame item.key.now key → item.value.now ≡ []
