-- What the network list of the devices that were found has of them (own).
use Rattle.std.specs.Prelude.{◌≡◌, ℕ, List, All, Some, None, map}
use Rattle.toml.specs.Data.{Members}
use Rattle.toml.specs.Parse.{parse_document}
use Rattle.cm_nmt.specs.declared.terms.Terms.{Terms}
use Rattle.cm_netlist.specs.Document.{fault_of}
use Rattle.cm_netlist.specs.Named.{network_of}
use Rattle.cm_netlist.specs.Network.{Network, listed_ids, terms}
use Rattle.canboot_scan.specs.declared.found.Found.{Found}

-- what is listed of a device that was found: it is booted (CiA 302-2, 1F81h bits 0 and 2), and its values are the expected ones
abbrev pub listed_as : Found → Terms
listed_as f = record {
  assignment = record { 0 = 5 };
  device_type = f.device_type;
  vendor = f.vendor;
  product = f.product;
  revision = f.revision;
  serial = f.serial;
  heartbeat_ms = 0;
  date = 0;
  time = 0;
  writes = 0;
}

-- just these devices are listed, each as it was found, of the manager of this node-ID
pub record ListsFound (network : Network) (own : ℕ) (found : List Found) : Type 0 where
  pub own_is : network.own ≡ own
  pub only : listed_ids network ≡ map (λ f. f.id) found
  pub each : All (λ f. terms network f.id ≡ Some (listed_as f)) found

-- the text is that of a network list without a fault, which lists just these devices
pub record IsListOfFound (text : List ℕ) (own : ℕ) (found : List Found) : Type 0 where
  pub list : Members
  pub parsed : parse_document text ≡ Some list
  pub faultless : fault_of list ≡ None
  pub lists : ListsFound (network_of list) own found
