-- Working definitions, behind the contracts of private functions: what a device is compared with (own).
use Rattle.std.specs.Prelude.{◌≡◌, ◌⊎◌, ◌++◌, ℕ, List, [], Option, Some, None, IfErr, IfOk, MatchOption, Result, Ok, Err, true, codes, is_ok}
use Rattle.std.specs.Io.KnownBytes.{Appends}
use Rattle.canboot_import.specs.Imports.{GivesNone, IsDeviceType, IsIdentity, IsIdentityUnread, IsObjectUnread, IsObjectValue, IsSerial, IsTold, unread_line}
use Rattle.cm_device.specs.FileValues.{IsGiven, Stands, StandsNone, StandsUnread}
use Rattle.cm_device.specs.declared.device_file.Item.{Item}
use Rattle.canboot_import.specs.declared.imported.Identity.{Identity}

-- the number, or 0
abbrev pub number_or_0 : Result ℕ Item → ℕ
number_or_0 (Ok n) = n
number_or_0 (Err item) = 0

abbrev pub or_0 : Option ℕ → ℕ
or_0 None = 0
or_0 (Some n) = n

-- what stands in the file under this key: a number, or nothing
abbrev pub IsNumberRead : List ℕ → ℕ → List ℕ → List ℕ → Option ℕ → Type 0
IsNumberRead file node name key found = MatchOption found (StandsNone file name key) (IsGiven file node name key)

-- the value of an object, or none
abbrev pub IsObjectRead : List ℕ → ℕ → List ℕ → Option ℕ → Type 0
IsObjectRead file node name found = MatchOption found (GivesNone file name) (IsObjectValue file node name)

-- each of them is a number
pub record AreRead (found : Identity) : Type 0 where
  pub device_type : is_ok found.device_type ≡ true
  pub vendor : is_ok found.vendor ≡ true
  pub product : is_ok found.product ≡ true
  pub revision : is_ok found.revision ≡ true
  pub serial : is_ok found.serial ≡ true

-- each number is the file's
pub record AreIdentitiesOf (file : List ℕ) (node : ℕ) (found : Identity) : Type 0 where
  pub device_type : IfOk found.device_type (IsDeviceType file node)
  pub vendor : IfOk found.vendor (IsIdentity file node (codes "1018sub1") (codes "VendorNumber"))
  pub product : IfOk found.product (IsIdentity file node (codes "1018sub2") (codes "ProductNumber"))
  pub revision : IfOk found.revision (IsIdentity file node (codes "1018sub3") (codes "RevisionNumber"))
  pub serial : IfOk found.serial (IsSerial file node)

-- of each that is none, what stands in the file is no number
pub record AreUnreadOf (file : List ℕ) (node : ℕ) (found : Identity) : Type 0 where
  pub device_type : IfErr found.device_type (λ item. IsObjectUnread file node (codes "1000"))
  pub vendor : IfErr found.vendor (λ item. IsIdentityUnread file node (codes "1018sub1") (codes "VendorNumber"))
  pub product : IfErr found.product (λ item. IsIdentityUnread file node (codes "1018sub2") (codes "ProductNumber"))
  pub revision : IfErr found.revision (λ item. IsIdentityUnread file node (codes "1018sub3") (codes "RevisionNumber"))
  pub serial : IfErr found.serial (λ item. StandsUnread file node (codes "1018sub4") (codes "ParameterValue"))

-- of each that is none a line is told
pub record AreTold (found : Identity) (told : List ℕ) : Type 0 where
  pub device_type : IfErr found.device_type (λ item. IsTold told (codes "1000h, device type"))
  pub vendor : IfErr found.vendor (λ item. IsTold told (codes "1018h sub 1, vendor-ID"))
  pub product : IfErr found.product (λ item. IsTold told (codes "1018h sub 2, product code"))
  pub revision : IfErr found.revision (λ item. IsTold told (codes "1018h sub 3, revision number"))
  pub serial : IfErr found.serial (λ item. IsTold told (codes "1018h sub 4, serial number"))

-- the text is the line of what is no number, and else nothing
abbrev pub IsLineOf : List ℕ → List ℕ → Result ℕ Item → List ℕ → Type 0
IsLineOf front part (Ok n) text = text ≡ []
IsLineOf front part (Err item) text = (shown : List ℕ) × (text ≡ unread_line front part shown item.line)

-- just that text was written
abbrev pub Tells : List ℕ → List ℕ → Result ℕ Item → Option (List ℕ) → Option (List ℕ) → Type 0
Tells front part found old new = (text : List ℕ) × IsLineOf front part found text × Appends old new text

-- just the lines of what is no number were written
pub record TellsAll (front : List ℕ) (found : Identity) (old new : Option (List ℕ)) : Type 0 where
  pub device_type : List ℕ
  pub vendor : List ℕ
  pub product : List ℕ
  pub revision : List ℕ
  pub serial : List ℕ
  pub device_type_is : IsLineOf front (codes "1000h, device type") found.device_type device_type
  pub vendor_is : IsLineOf front (codes "1018h sub 1, vendor-ID") found.vendor vendor
  pub product_is : IsLineOf front (codes "1018h sub 2, product code") found.product product
  pub revision_is : IsLineOf front (codes "1018h sub 3, revision number") found.revision revision
  pub serial_is : IsLineOf front (codes "1018h sub 4, serial number") found.serial serial
  pub written : Appends old new (device_type ++ (vendor ++ (product ++ (revision ++ serial))))

-- the text stands in the file as the node-ID of its device
abbrev pub StandsAsNode : List ℕ → List ℕ → Type 0
StandsAsNode file text = Stands file (codes "DeviceComissioning") (codes "NodeID") text ⊎ Stands file (codes "DeviceCommissioning") (codes "NodeID") text
