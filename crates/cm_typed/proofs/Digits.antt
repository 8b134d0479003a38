-- The number that digits are, one digit more.
use Rattle.std.proofs.Common.{◌≡◌, ℕ, ◌+◌, ◌<◌, ◌≤◌, List, [], ◌∷◌, length, get_or, drop, refl, sym, ap, ◌∙◌, Some, None, arith}
use Rattle.std.specs.Prelude.{Option}
use Rattle.std.proofs.lemmas.List.{drop_all}
use Rattle.cm_text.specs.FieldReading.{◌>>=◌}
use Rattle.cm_typed.specs.NodeLists.{digit_more, number_after, number_in}
use Rattle.cm_typed.proofs.Folds.{drop_more}

module _ (base : ℕ) (ds : List ℕ) (k n : ℕ) where
  -- what the digits that are left make of the number, by the next one
  at : (c : ℕ) (next : Option ℕ) → k < length ds → c ≡ get_or ds k c → next ≡ digit_more base n c
      → number_after base n (drop k ds) ≡ (next >>= (λ m. number_after base m (drop (k + 1) ds)))
  unfolding number_after
  at c next lt is e =
      ap (λ (l : List ℕ). number_after base n l) (drop_more ds k c lt is)
      ∙ sym (ap (λ (x : Option ℕ). x >>= (λ m. number_after base m (drop (k + 1) ds))) e)

  pub number_more : (c m : ℕ) (all : Option ℕ) → k < length ds → c ≡ get_or ds k c → Some m ≡ digit_more base n c → number_after base n (drop k ds) ≡ all
      → number_after base m (drop (k + 1) ds) ≡ all
  number_more c m all lt is e was = sym (at c (Some m) lt is e) ∙ was

  pub number_none : (c : ℕ) (all : Option ℕ) → k < length ds → c ≡ get_or ds k c → None ≡ digit_more base n c → number_after base n (drop k ds) ≡ all → None ≡ all
  number_none c all lt is e was = sym (at c None lt is e) ∙ was

  pub number_done : (all : Option ℕ) → length ds ≤ k → number_after base n (drop k ds) ≡ all → Some n ≡ all
  unfolding number_after
  number_done all le was = sym (ap (λ (l : List ℕ). number_after base n l) (drop_all k ds le)) ∙ was

-- of one digit or more it is the number that all make of 0
pub number_of_some : (base : ℕ) (ds : List ℕ) → 0 < length ds → number_after base 0 ds ≡ number_in base ds
number_of_some base [] some = absurd (omega (arith, some))
number_of_some base (c ∷ cs) some = refl
