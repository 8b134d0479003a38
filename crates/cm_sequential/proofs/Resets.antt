-- The listed slaves that are kept alive, and those that aren't.
use Rattle.std.proofs.Common.{◌≡◌, ℕ, List, [], ◌∷◌, length, refl, ap, ◌∙◌, not, arith}
use Rattle.std.specs.Prelude.{filter, ◌==◌}
use Rattle.std.proofs.lemmas.Grind.{common_steps}
use Rattle.cm_netlist.specs.Network.{Network, listed_ids, listing}
use Rattle.cm_netlist.specs.Network as network
use Rattle.cm_nmt.specs.Listing.{is_kept, node_ids}
use Rattle.cm_history.specs.OrderFrames.{is_unkept}
use Rattle.cm_history.specs.History.{is_empty}
use Rattle.cm_history.proofs.OpenSlaves.{filter_twice}

none_long : (xs : List ℕ) → (length xs == 0) ≡ is_empty xs
none_long [] = refl
none_long (x ∷ xs) = grind arith

pub none_kept : (net : Network) (ids xs : List ℕ) → ids ≡ listed_ids net → xs ≡ filter (network.is_kept net) ids → (length xs == 0) ≡ is_empty (filter (is_kept (listing net)) node_ids)
none_kept net ids xs listed kept =
    let twice : filter (network.is_kept net) (listed_ids net) ≡ filter (is_kept (listing net)) node_ids =
    filter_twice (network.is_listed net) (network.is_kept net) (is_kept (listing net)) (λ i. grind (arith, common_steps)) node_ids in
    none_long xs ∙ ap is_empty (kept ∙ ap (filter (network.is_kept net)) listed ∙ twice)

pub unkept : (net : Network) (ids xs : List ℕ) → ids ≡ listed_ids net → xs ≡ filter (λ i. not (network.is_kept net i)) ids → xs ≡ filter (is_unkept (listing net)) node_ids
unkept net ids xs listed left =
    left ∙ ap (filter (λ i. not (network.is_kept net i))) listed
    ∙ filter_twice (network.is_listed net) (λ i. not (network.is_kept net i)) (is_unkept (listing net)) (λ i. grind (arith, common_steps)) node_ids
