-- What a slave that is made of a device file has of it.
use Rattle.std.proofs.Common.{◌≡◌, ℕ, Bool, true, false, true≢false, List, ◌++◌, Option, Some, None, IfSome, Result, Ok, Err, IfErr, IfOk, ◌⊎◌, inl, inr, refl, sym, subst}
use Rattle.std.specs.Prelude.{codes, is_ok}
use Rattle.std.specs.Result.{OkIff, result_ok}
use Rattle.cm_netlist.specs.Network.{terms_of}
use Rattle.cm_netlist.specs.declared.entry.SlaveEntry.{SlaveEntry}
use Rattle.cm_netlist.specs.ReadBack.{IsListOf, manager_text}
use Rattle.cm_device.specs.DeviceFiles.{IsNoNumber, IsNumber}
use Rattle.canboot_import.specs.Imports.{GivesNone, IsDeviceInfo, IsIdentity, IsIdentityUnread, IsImported, IsNodeOf, IsObjectUnread, IsObjectValue, IsOfFile, IsReadAs, IsTold}
use Rattle.cm_device.specs.FileValues.{IsGiven, Stands, StandsNone, StandsUnread}
use Rattle.canboot_import.specs.LinesRead.{AreTold, IsNumberRead, IsObjectRead, StandsAsNode, number_or_0, or_0}
use Rattle.cm_device.specs.declared.device_file.Item.{Item}
use Rattle.canboot_import.specs.declared.imported.Identity.{Identity}
use Rattle.canboot_import.specs.declared.imported.ImportWords.{ImportWords}
use Rattle.canboot_import.specs.declared.made.ImportedText.{ImportedText}

-- the number of a value that stands in the file
pub given : (file : List ℕ) (node : ℕ) (name key text : List ℕ) (n : ℕ) → Stands file name key text → IsNumber node text n → IsGiven file node name key n
given file node name key text n stands number = record { text = text; stands = stands; number = number }

-- a value that stands in the file and is no number
pub unread : (file : List ℕ) (node : ℕ) (name key text : List ℕ) → Stands file name key text → IsNoNumber node text → StandsUnread file node name key
unread file node name key text stands none = record { text = text; stands = stands; none = none }

-- what holds anyhow holds where it fails
pub if_err : {X E : Type 0} (r : Result X E) (P : Type 0) → P → IfErr r (λ e. P)
if_err (Ok x) P holds = tt
if_err (Err e) P holds = holds

-- what follows holds where it fails
pub err_if : {X E : Type 0} (r : Result X E) (P Q : Type 0) → (P → Q) → IfErr r (λ e. P) → IfErr r (λ e. Q)
err_if (Ok x) P Q more holds = tt
err_if (Err e) P Q more holds = more holds

-- what follows of each value holds of the one that there is
pub if_there : {X : Type 0} (r : Option X) (P Q : X → Type 0) → ((x : X) → P x → Q x) → IfSome r P → IfSome r Q
if_there None P Q more holds = tt
if_there (Some x) P Q more holds = more x holds

-- the byte that is made of a number is that number
pub as_byte : {E : Type 0} (tried : Result ℕ E) (P : Type 0) (n found : ℕ) → OkIff tried P n → Some found ≡ result_ok tried → found ≡ n
as_byte (Ok x) P n found fits is = let same = fits.1 in cc
as_byte (Err e) P n found fits is = absurd cc

-- the same text under equal names
pub renamed : (file name other key other_key text : List ℕ) → other ≡ name → other_key ≡ key → Stands file other other_key text → Stands file name key text
renamed file name other key other_key text same same_key stands =
    subst (λ (n : List ℕ). Stands file n key text) same (subst (λ (k : List ℕ). Stands file other k text) same_key stands)

pub renamed_none : (file name other key other_key : List ℕ) → other ≡ name → other_key ≡ key → StandsNone file other other_key → StandsNone file name key
renamed_none file name other key other_key same same_key none =
    subst (λ (n : List ℕ). StandsNone file n key) same (subst (λ (k : List ℕ). StandsNone file other k) same_key none)

-- the node-ID of a text that stands in the file
pub node_given : (file text : List ℕ) (n : ℕ) → StandsAsNode file text → IsNumber 1 text n → IsNodeOf file n
node_given file text n (inl stands) number = inl record { text = text; stands = stands; number = number }
node_given file text n (inr stands) number = inr record { text = text; stands = stands; number = number }

-- the value of an object that has none of its own is its default
pub or_default : (file : List ℕ) (node : ℕ) (name : List ℕ) (r : Result (Option ℕ) Item) → StandsNone file name (codes "ParameterValue")
    → IfOk r (IsNumberRead file node name (codes "DefaultValue")) → IfOk r (IsObjectRead file node name)
or_default file node name (Ok None) none is = (none, is)
or_default file node name (Ok (Some n)) none is = inr (none, is)
or_default file node name (Err item) none is = tt

-- what an object's value says where it is 0 or isn't there, and where it is another
pub is_0 : (file : List ℕ) (node : ℕ) (name : List ℕ) (v : Option ℕ) → IsObjectRead file node name v → or_0 v ≡ 0 → GivesNone file name ⊎ IsObjectValue file node name 0
is_0 file node name None read is = inl read
is_0 file node name (Some n) read is = inr (subst (λ (m : ℕ). IsObjectValue file node name m) is read)

pub is_value : (file : List ℕ) (node : ℕ) (name : List ℕ) (v : Option ℕ) → IsObjectRead file node name v → (or_0 v ≡ 0 → ⊥) → IsObjectValue file node name (or_0 v)
is_value file node name None read other = absurd (other refl)
is_value file node name (Some n) read other = read

-- an identity that isn't given among the objects is what the file says of its device
pub of_info : (file : List ℕ) (node : ℕ) (name key : List ℕ) (r : Result ℕ Item) → GivesNone file name ⊎ IsObjectValue file node name 0 → IfOk r (IsDeviceInfo file node key)
    → IfOk r (IsIdentity file node name key)
of_info file node name key (Ok n) none is = inr (none, is)
of_info file node name key (Err item) none is = tt

-- the slave that is read back is the one of the file
pub imported : {E : Type 0} (r : Result ImportedText E) (file : List ℕ) (words : ImportWords) (node : ℕ) (entry : SlaveEntry) (found : Identity)
    → ((told : List ℕ) → AreTold found told → IsOfFile file words node told (terms_of entry) entry.writes.items)
    → IfOk r (λ t. IsListOf (manager_text node ++ t.slave.items) node entry) → IfOk r (λ t. AreTold found t.told.items)
    → IfOk r (λ t. IsImported file words t.slave.items t.told.items)
imported (Ok t) file words node entry found made back lines =
    let told = t.told.items in
    let slave : IsOfFile file words node told (terms_of entry) entry.writes.items = made told lines in
    record {
      node = node;
      e = entry;
      list = back;
      slave = slave;
    }
imported (Err f) file words node entry found made back lines = tt

-- what is listed of a number that was read, or of what stands in the file and is none
pub listed : (r : Result ℕ Item) (n : ℕ) (mandatory : Bool) (P : ℕ → Type 0) (Unread : Type 0) (told part : List ℕ) → n ≡ number_or_0 r → IfOk r P
    → IfErr r (λ item. Unread) → IfErr r (λ item. IsTold told part) → (mandatory ≡ true → is_ok r ≡ true) → IsReadAs mandatory P Unread told part n
listed (Ok m) n mandatory P Unread told part is holds unread line read = inl (subst P (sym is) holds)
listed (Err item) n true P Unread told part is holds unread line read = absurd (true≢false (sym (read refl)))
listed (Err item) n false P Unread told part is holds unread line read = inr record { optional = refl; unread = unread; line = line; listed = is }
