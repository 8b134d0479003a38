-- What follows from what every network list keeps.
use Rattle.std.proofs.Common.{◌≡◌, ℕ, ◌<◌, false, refl, arith, Option, Some, None, IfSome, is_some, option_map}
use Rattle.std.specs.FinMap as map
use Rattle.cm_netlist.specs.Network.{Network, IsEntry, IsNetwork, is_listed, terms, terms_of}
use Rattle.cm_netlist.specs.declared.entry.SlaveEntry.{SlaveEntry}

-- no entry stands above node-ID 127
pub terms_above : (net : Network) → IsNetwork net → (i : ℕ) → 127 < i → terms net i ≡ None
terms_above net ok i above = no_entry (map.get net.slaves i) (ok.entries i)
  where
    no_entry : (o : Option SlaveEntry) → IfSome o (λ e. IsEntry net.own i e) → option_map terms_of o ≡ None
    no_entry None kept = refl
    no_entry (Some e) kept = absurd (omega (arith, kept.node.1, above))

-- nor at 0, which means all nodes
pub terms_zero : (net : Network) → IsNetwork net → terms net 0 ≡ None
terms_zero net ok = no_entry (map.get net.slaves 0) (ok.entries 0)
  where
    no_entry : (o : Option SlaveEntry) → IfSome o (λ e. IsEntry net.own 0 e) → option_map terms_of o ≡ None
    no_entry None kept = refl
    no_entry (Some e) kept = absurd (omega (arith, kept.node.0))

-- the own node-ID isn't listed
pub own_apart : (net : Network) → IsNetwork net → is_listed net net.own ≡ false
own_apart net ok = no_entry (map.get net.slaves net.own) (ok.entries net.own)
  where
    no_entry : (o : Option SlaveEntry) → IfSome o (λ e. IsEntry net.own net.own e) → is_some o ≡ false
    no_entry None kept = refl
    no_entry (Some e) kept = absurd (kept.other refl)
