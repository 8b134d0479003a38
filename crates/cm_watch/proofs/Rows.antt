-- The rows of slaves: each is as after a moment once a loop has come to it, or where it is the one that the moment is about.
use Rattle.std.proofs.Common.{◌≡◌, ◌≢◌, ◌∙◌, ℕ, ◌+◌, ◌≤◌, ◌<◌, inl, inr, List, ap, sym, arith, length, below_more, get_or-set_other, get_or-set_same}
use Rattle.std.proofs.lemmas.Bool.Decides.{eqb_tells}
use Rattle.std.proofs.Math.ListN.{set}
use Rattle.cm_watch.specs.Kept.{blank_slave}
use Rattle.cm_watch.specs.Watches.{kept_at}
use Rattle.cm_watched.specs.declared.slave.Slave.{Slave}

-- one row more
pub take_step : (F : ℕ → Slave → Slave) (start now : List Slave) (n : ℕ) (s : Slave) → n < length now → s ≡ F n (kept_at now n)
    → ((i : ℕ) → 1 ≤ i → i < n → kept_at now i ≡ F i (kept_at start i)) → ((i : ℕ) → n ≤ i → kept_at now i ≡ kept_at start i)
    → ((i : ℕ) → 1 ≤ i → i < n + 1 → kept_at (set now n s) i ≡ F i (kept_at start i)) × ((i : ℕ) → n + 1 ≤ i → kept_at (set now n s) i ≡ kept_at start i)
take_step F start now n s within is done left = (
  λ i low high. below_more (λ k. 1 ≤ k → kept_at (set now n s) k ≡ F k (kept_at start k)) n
      (λ k below here. let other : k ≢ n = omega arith in get_or-set_other now n k s blank_slave other ∙ done k here below)
      (λ here. get_or-set_same now n s blank_slave within ∙ is ∙ ap (F n) (left n (omega arith))) i high low,
  λ i high. let other : i ≢ n = omega arith in get_or-set_other now n i s blank_slave other ∙ left i (omega arith),
)

-- one row alone, where no other changes
pub take_alone : (F : ℕ → Slave → Slave) (rows : List Slave) (n : ℕ) (s : Slave) → n < length rows → s ≡ F n (kept_at rows n)
    → ((i : ℕ) → i ≢ n → (k : Slave) → F i k ≡ k) → (i : ℕ) → kept_at (set rows n s) i ≡ F i (kept_at rows i)
take_alone F rows n s within is apart i =
    elim (eqb_tells i n) [
      | inl same ↦ ap (kept_at (set rows n s)) same.1 ∙ get_or-set_same rows n s blank_slave within ∙ is ∙ ap (λ k. F k (kept_at rows k)) (sym same.1)
      | inr other ↦ get_or-set_other rows n i s blank_slave other.1 ∙ sym (apart i other.1 (kept_at rows i))
    ]
