-- When the devices that were found on a bus are those that a network list has (own; CiA 302-2, 1F84h to 1F88h).
use Rattle.std.specs.Prelude.{◌≡◌, ◌≢◌, ℕ, List, All, Contains, IsTrue, Some}
use Rattle.cm_nmt.specs.declared.terms.Terms.{Terms}
use Rattle.cm_netlist.specs.Network.{Network, is_listed, listed_ids, terms}
use Rattle.canboot_scan.specs.declared.found.Found.{Found}

-- the device has each value that is expected; 0 stands for any
pub record HasExpected (t : Terms) (f : Found) : Type 0 where
  pub device_type : t.device_type ≢ 0 → f.device_type ≡ t.device_type
  pub vendor : t.vendor ≢ 0 → f.vendor ≡ t.vendor
  pub product : t.product ≢ 0 → f.product ≡ t.product
  pub revision : t.revision ≢ 0 → f.revision ≡ t.revision
  pub serial : t.serial ≢ 0 → f.serial ≡ t.serial

-- a device was found at this listed node, and has its expected values
pub record IsFoundAsListed (net : Network) (found : List Found) (i : ℕ) : Type 0 where
  pub f : Found
  pub t : Terms
  pub member : Contains found f
  pub at : f.id ≡ i
  pub listed : terms net i ≡ Some t
  pub has : HasExpected t f

-- each listed slave was found with its expected values, and no other device was
pub record IsAsListed (net : Network) (found : List Found) : Type 0 where
  pub each : All (IsFoundAsListed net found) (listed_ids net)
  pub only : All (λ f. IsTrue (is_listed net f.id)) found
