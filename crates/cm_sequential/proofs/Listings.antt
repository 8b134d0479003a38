-- The manager's copy of a network list says what the list says.
use Rattle.std.proofs.Common.{◌≡◌, ℕ, ◌<◌, ◌≤◌, List, length, refl, ap, sym, ◌∙◌, ◌&&◌, arith, inl, inr, false, Option, Some, None, option_map}
use Rattle.std.specs.Prelude.{IfSome, nat_lt}
use Rattle.std.specs.Option.{is_some, option_map_or}
use Rattle.std.specs.List.{slice_index_or}
use Rattle.std.proofs.lemmas.Bool.{cases_lt, lt-ltb, le-ltb}
use Rattle.std.proofs.lemmas.List.{get_or_past}
use Rattle.cm_netlist.specs.Network.{Network, IsEntry, IsNetwork, terms_of, listing}
use Rattle.cm_netlist.specs.Network as network
use Rattle.cm_netlist.specs.declared.entry.SlaveEntry.{SlaveEntry}
use Rattle.cm_nmt.specs.declared.terms.Terms.{Terms}
use Rattle.cm_netlist.proofs.Networks.{terms_above, terms_zero}
use Rattle.cm_nmt.specs.Listing.{Listing, is_listed, is_mandatory}
use Rattle.cm_nmt.specs.Bits.{has_bit}
use Rattle.cm_history.specs.Machine.{ListsNodes}
use Rattle.cm_sequential.specs.States.{kept_listing}
use Rattle.cm_sequential.specs.declared.listing_copy.ListingCopy.{ListingCopy}

-- two lists that say the same of every node are one
same_parts : (own startup boot_time : ℕ) (f g : ℕ → Option Terms) → ((i : ℕ) → f i ≡ g i)
    → ◌≡◌ {A = Listing} (record { own = own; startup = startup; boot_time = boot_time; terms = f }) (record { own = own; startup = startup; boot_time = boot_time; terms = g })
same_parts own startup boot_time f g h = λ k. record { own = own; startup = startup; boot_time = boot_time; terms = λ i. h i k }

past_end : (xs : List (Option Terms)) (i : ℕ) → length xs ≤ i → slice_index_or xs i None ≡ None
past_end xs i h = get_or_past xs i None h

-- a copy whose terms are those of each node-ID
pub copied : (plan : ListingCopy) (net : Network) → IsNetwork net → plan.own ≡ net.own → plan.startup.0 ≡ net.startup → plan.boot_time ≡ net.boot_time → length plan.terms ≡ 128
    → ((i : ℕ) → i < 128 → slice_index_or plan.terms i None ≡ network.terms net i) → kept_listing plan ≡ listing net
unfolding kept_listing
copied plan net ok own startup boot_time sized each =
    rw (own, startup, boot_time) (same_parts net.own net.startup net.boot_time (λ i. slice_index_or plan.terms i None) (network.terms net) (λ i. elim (cases_lt i 128) [
      | inl low ↦ each i low
      | inr high ↦ past_end plan.terms i (omega arith) ∙ sym (terms_above net ok i (omega arith))
    ]))

-- the manager's own node-ID isn't listed
pub own_unlisted : (net : Network) → IsNetwork net → is_listed (listing net) net.own ≡ false
own_unlisted net ok = unlisted (network.entry net net.own) (ok.entries net.own)
  where
    unlisted : (o : Option SlaveEntry) → IfSome o (λ e. IsEntry net.own net.own e) → is_some (option_map terms_of o) ≡ false
    unlisted None h = refl
    unlisted (Some e) h = absurd (h.other refl)

-- no number above 127 is listed
pub lists_nodes : (net : Network) → IsNetwork net → ListsNodes (listing net)
lists_nodes net ok i high = ap (λ (t : Option Terms). is_some t) (terms_above net ok i (omega (arith, high)))

-- before node 1 there is no mandatory slave
pub none_first : (net : Network) → IsNetwork net → (i : ℕ) → (nat_lt i 1 && is_mandatory (listing net) i) ≡ false
none_first net ok i = elim (cases_lt i 1) [
  | inl first ↦
      let zero : i ≡ 0 = omega (arith, first) in
      rw (lt-ltb i 1 first) (ap (λ (k : ℕ). is_mandatory (listing net) k) zero
      ∙ ap (λ (t : Option Terms). option_map_or (λ (u : Terms). has_bit u.assignment.0 3) t false) (terms_zero net ok))
  | inr later ↦ rw (le-ltb i 1 later) refl
]
