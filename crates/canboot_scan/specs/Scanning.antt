-- What `canboot scan` does (own).
use Rattle.std.specs.Prelude.{◌≡◌, ◌⊎◌, ℕ, List, All, Option, Some}
use Rattle.std.specs.Io.KnownBytes.{Appends}
use Rattle.cm_nmt.specs.declared.terms.Terms.{Terms}
use Rattle.cm_netlist.specs.Network.{Network, listed_ids, terms}
use Rattle.cm_bus.specs.declared.identifying.Identity.{Identity}
use Rattle.cm_boot.specs.declared.question.Answer.TheVariants as answer
use Rattle.cm_boot.specs.declared.question.Question.TheVariants as ask
use Rattle.cm_bus.specs.Receiving.{HasHeardIdentity, IsHeard}
use Rattle.cm_can.specs.declared.format.Format.{Format}
use Rattle.canboot_scan.specs.Scans.{IsListOfFound, listed_as}
use Rattle.canboot_scan.specs.declared.found.Found.{Found}

-- a device of this node-ID that says that of itself
abbrev pub found_of : ℕ → Identity → Found
found_of id i =
    record { id = id; device_type = i.device_type; vendor = i.vendor; product = i.product; revision = i.revision; serial = i.serial }

-- the device answered the read of its device type (CiA 301, 1000h) with its value, and each value of it that isn't 0 was heard from it,
-- among the bytes received, each behind the one before, with no boot-up message of its node-ID between where it was asked first and them
pub record IsHeardDevice (format : Format) (received : Option (List ℕ)) (f : Found) : Type 0 where
  pub begun : ℕ
  pub upto : ℕ
  pub there : IsHeard format received f.id (ask.Read 4096 0) (answer.Value f.device_type) begun begun upto
  pub values : HasHeardIdentity format received (listed_as f) f.id begun begun upto

-- the text is the network list of devices that were heard so, and of no others
pub record IsListHeard (format : Format) (received : Option (List ℕ)) (own : ℕ) (text : List ℕ) : Type 0 where
  pub found : List Found
  pub list : IsListOfFound text own found
  pub heard : All (IsHeardDevice format received) found

-- just such a text was written
pub record Scans (format : Format) (received : Option (List ℕ)) (own : ℕ) (output output' : Option (List ℕ)) : Type 0 where
  pub text : List ℕ
  pub list : IsListHeard format received own text
  pub written : Appends output output' text

-- nothing was written, or such a text was to be written
abbrev pub FailsToScan : Format → Option (List ℕ) → ℕ → Option (List ℕ) → Option (List ℕ) → Type 0
FailsToScan format received own output output' = (output' ≡ output) ⊎ ((text : List ℕ) × IsListHeard format received own text)

-- each value that is expected of this listed slave was heard so from it
pub record IsHeardAsListed (format : Format) (received : Option (List ℕ)) (net : Network) (i : ℕ) : Type 0 where
  pub t : Terms
  pub begun : ℕ
  pub upto : ℕ
  pub listed : terms net i ≡ Some t
  pub heard : HasHeardIdentity format received t i begun begun upto

-- and so of each listed slave
abbrev pub AreHeardAsListed : Format → Option (List ℕ) → Network → Type 0
AreHeardAsListed format received net = All (IsHeardAsListed format received net) (listed_ids net)
