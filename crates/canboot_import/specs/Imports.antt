-- What an imported slave has of its device file (CiA 306; the order of its writes is CiA 301's, and in no clause).
use Rattle.std.specs.Prelude.{◌≡◌, ◌⊎◌, ℕ, Bool, false, List, ◌++◌, All, MatchOption, codes, decimal, if◌then◌else◌}
use Rattle.cm_nmt.specs.declared.terms.Terms.{Terms}
use Rattle.cm_nmt.specs.declared.write.Write.{Write}
use Rattle.cm_netlist.specs.Network.{terms_of}
use Rattle.cm_netlist.specs.declared.entry.SlaveEntry.{SlaveEntry}
use Rattle.cm_netlist.specs.ReadBack.{IsListOf, lined, manager_text}
use Rattle.cm_device.specs.DeviceFiles.{Has, IsObject, behind_mark}
use Rattle.cm_device.specs.FileValues.{IsGiven, IsSetting, StandsNone, StandsUnread}
use Rattle.canboot_import.specs.declared.imported.ImportWords.{ImportWords}

-- the number is the value of the object of this section, or its default where no value stands there
abbrev pub IsObjectValue : List ℕ → ℕ → List ℕ → ℕ → Type 0
IsObjectValue file node name n =
    IsGiven file node name (codes "ParameterValue") n
    ⊎ (StandsNone file name (codes "ParameterValue") × IsGiven file node name (codes "DefaultValue") n)

-- neither of them stands in the file
abbrev pub GivesNone : List ℕ → List ℕ → Type 0
GivesNone file name = StandsNone file name (codes "ParameterValue") × StandsNone file name (codes "DefaultValue")

-- the number is the device type; 0, by which nothing is compared, where none stands in the file
abbrev pub IsDeviceType : List ℕ → ℕ → ℕ → Type 0
IsDeviceType file node n = IsObjectValue file node (codes "1000") n ⊎ (GivesNone file (codes "1000") × (n ≡ 0))

-- what the file says of its device under this key; 0 where nothing stands there
abbrev pub IsDeviceInfo : List ℕ → ℕ → List ℕ → ℕ → Type 0
IsDeviceInfo file node key n = IsGiven file node (codes "DeviceInfo") key n ⊎ (StandsNone file (codes "DeviceInfo") key × (n ≡ 0))

-- the number is one of 1018h's values; where that is 0 or doesn't stand in the file, what the file says of its device under this key
abbrev pub IsIdentity : List ℕ → ℕ → List ℕ → List ℕ → ℕ → Type 0
IsIdentity file node name key n =
    IsObjectValue file node name n ⊎ ((GivesNone file name ⊎ IsObjectValue file node name 0) × IsDeviceInfo file node key n)

-- the number is the value that a device configuration file gives the serial number; 0 where none stands there
abbrev pub IsSerial : List ℕ → ℕ → ℕ → Type 0
IsSerial file node n =
    IsGiven file node (codes "1018sub4") (codes "ParameterValue") n ⊎ (StandsNone file (codes "1018sub4") (codes "ParameterValue") × (n ≡ 0))

-- ---- what is no number

-- of the object of this section what stands in the file is no number: its value, or its default where no value stands there (CiA 306)
abbrev pub IsObjectUnread : List ℕ → ℕ → List ℕ → Type 0
IsObjectUnread file node name =
    StandsUnread file node name (codes "ParameterValue")
    ⊎ (StandsNone file name (codes "ParameterValue") × StandsUnread file node name (codes "DefaultValue"))

-- of one of 1018h's values what stands in the file is no number; where that is 0 or doesn't stand there, what the file says of its device under
-- this key (CiA 306)
abbrev pub IsIdentityUnread : List ℕ → ℕ → List ℕ → List ℕ → Type 0
IsIdentityUnread file node name key =
    IsObjectUnread file node name
    ⊎ ((GivesNone file name ⊎ IsObjectValue file node name 0) × StandsUnread file node (codes "DeviceInfo") key)

-- the line of a value that is no number, behind these words: the part of the identity, the value as it is shown, its line in the file (own)
abbrev pub unread_line : List ℕ → List ℕ → List ℕ → ℕ → List ℕ
unread_line front part shown line =
    (front ++ (part ++ codes ": '")) ++ (shown ++ (codes "' of line " ++ (decimal line ++ lined (codes " is no number"))))

-- among the lines that are told is one of this part of the identity (own)
pub record IsTold (told part : List ℕ) : Type 0 where
  pub before : List ℕ
  pub shown : List ℕ
  pub line : ℕ
  pub behind : List ℕ
  pub is : told ≡ before ++ (unread_line (codes "not compared: ") part shown line ++ behind)

-- a part of the identity is left out: the slave isn't mandatory, what stands in the file is no number, a line says so, and 0 is listed, by which
-- nothing is compared (own)
pub record IsLeftOut (mandatory : Bool) (Unread : Type 0) (told part : List ℕ) (n : ℕ) : Type 0 where
  pub optional : mandatory ≡ false
  pub unread : Unread
  pub line : IsTold told part
  pub listed : n ≡ 0

-- what is listed is a number that was read so, or the part is left out (own)
abbrev pub IsReadAs : Bool → (ℕ → Type 0) → Type 0 → List ℕ → List ℕ → ℕ → Type 0
IsReadAs mandatory P Unread told part n = P n ⊎ IsLeftOut mandatory Unread told part n

-- ---- the slave

-- the node-ID is the one that the file has (CiA 306 spells its section with one m)
abbrev pub IsNodeOf : List ℕ → ℕ → Type 0
IsNodeOf file node = IsGiven file 1 (codes "DeviceComissioning") (codes "NodeID") node ⊎ IsGiven file 1 (codes "DeviceCommissioning") (codes "NodeID") node

-- the file has the device type or an identity among its objects (CiA 301: 1000h, 1018h)
pub record HasDevice (file : List ℕ) : Type 0 where
  pub section : List ℕ
  pub key : List ℕ
  pub text : List ℕ
  pub object : ℕ × ℕ
  pub has : Has (behind_mark file) section key text
  pub object_is : IsObject section object
  pub which : (object.0 ≡ 4096) ⊎ (object.0 ≡ 4120)

-- what is listed of a slave of this node-ID, as the file and the words say it, with the lines that are told; 0xD is a mandatory slave that is
-- booted, 0x5 one that isn't mandatory; no file gives 1F26h and 1F27h, the date and the time of a configuration, which are 0
pub record AreTermsOf (file : List ℕ) (words : ImportWords) (node : ℕ) (told : List ℕ) (terms : Terms) : Type 0 where
  pub assignment : terms.assignment.0 ≡ (if words.mandatory then 13 else 5)
  pub device_type :
      IsReadAs words.mandatory (IsDeviceType file node) (IsObjectUnread file node (codes "1000")) told
      (codes "1000h, device type") terms.device_type
  pub vendor :
      IsReadAs words.mandatory (IsIdentity file node (codes "1018sub1") (codes "VendorNumber"))
      (IsIdentityUnread file node (codes "1018sub1") (codes "VendorNumber")) told
      (codes "1018h sub 1, vendor-ID") terms.vendor
  pub product :
      IsReadAs words.mandatory (IsIdentity file node (codes "1018sub2") (codes "ProductNumber"))
      (IsIdentityUnread file node (codes "1018sub2") (codes "ProductNumber")) told
      (codes "1018h sub 2, product code") terms.product
  pub revision :
      IsReadAs words.mandatory (IsIdentity file node (codes "1018sub3") (codes "RevisionNumber"))
      (IsIdentityUnread file node (codes "1018sub3") (codes "RevisionNumber")) told
      (codes "1018h sub 3, revision number") terms.revision
  pub serial :
      IsReadAs words.mandatory (IsSerial file node) (StandsUnread file node (codes "1018sub4") (codes "ParameterValue")) told
      (codes "1018h sub 4, serial number") terms.serial
  pub heartbeat : terms.heartbeat_ms ≡ words.heartbeat_ms
  pub date : terms.date ≡ 0
  pub time : terms.time ≡ 0

-- the file is one of a device, and the slave's node-ID is that of the words, else the one that the file has; what is listed of it, and its
-- writes, are the file's
pub record IsOfFile (file : List ℕ) (words : ImportWords) (node : ℕ) (told : List ℕ) (terms : Terms) (writes : List Write) : Type 0 where
  pub device : HasDevice file
  pub node_is : MatchOption words.id (IsNodeOf file node) (λ id. node ≡ id)
  pub listed : AreTermsOf file words node told terms
  pub set : All (IsSetting file node) writes

-- the text is, behind the lines of a manager, the list of just the slave that the file and the words say, and these lines are told
pub record IsImported (file : List ℕ) (words : ImportWords) (text told : List ℕ) : Type 0 where
  pub node : ℕ
  pub e : SlaveEntry
  pub list : IsListOf (manager_text node ++ text) node e
  pub slave : IsOfFile file words node told (terms_of e) e.writes.items
