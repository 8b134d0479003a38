-- A slave with its faults, one fault more.
use Rattle.std.proofs.Common.{◌≡◌, ℕ, ◌+◌, ◌<◌, ◌≤◌, List, length, get_or, drop, sym, ap, ◌∙◌}
use Rattle.std.proofs.lemmas.List.{drop_all}
use Rattle.cm_nmt.specs.declared.write.Write.{Write}
use Rattle.cm_run.specs.declared.slave.SimSlave.{SimSlave}
use Rattle.cm_typed.proofs.Folds.{drop_more}
use Rattle.canboot_run.specs.SlaveFaults.{aborting, aborting_by, wrong_by, wrong_with}
use Rattle.canboot_run.specs.declared.slave_faults.AbortedObject.{AbortedObject}
use Rattle.canboot_run.specs.declared.slave_faults.WrongValue.{WrongValue}

module _ (ws : List WrongValue) (k i : ℕ) (s : SimSlave) where
  pub wrong_more : (s' all : SimSlave) (w : WrongValue) → k < length ws → w ≡ get_or ws k w → s' ≡ wrong_by w i s → wrong_with (drop k ws) i s ≡ all
      → wrong_with (drop (k + 1) ws) i s' ≡ all
  unfolding wrong_with
  wrong_more s' all w lt is made was =
      ap (λ (x : SimSlave). wrong_with (drop (k + 1) ws) i x) made
      ∙ (sym (ap (λ (l : List WrongValue). wrong_with l i s) (drop_more ws k w lt is)) ∙ was)

  pub wrong_done : (all : SimSlave) → length ws ≤ k → wrong_with (drop k ws) i s ≡ all → s ≡ all
  unfolding wrong_with
  wrong_done all le was = sym (ap (λ (l : List WrongValue). wrong_with l i s) (drop_all k ws le)) ∙ was

module _ (xs : List AbortedObject) (k i : ℕ) (writes : List Write) (s : SimSlave) where
  pub aborting_more : (s' all : SimSlave) (a : AbortedObject) → k < length xs → a ≡ get_or xs k a → s' ≡ aborting_by a i writes s → aborting (drop k xs) i writes s ≡ all
      → aborting (drop (k + 1) xs) i writes s' ≡ all
  unfolding aborting
  aborting_more s' all a lt is made was =
      ap (λ (x : SimSlave). aborting (drop (k + 1) xs) i writes x) made
      ∙ (sym (ap (λ (l : List AbortedObject). aborting l i writes s) (drop_more xs k a lt is)) ∙ was)

  pub aborting_done : (all : SimSlave) → length xs ≤ k → aborting (drop k xs) i writes s ≡ all → s ≡ all
  unfolding aborting
  aborting_done all le was = sym (ap (λ (l : List AbortedObject). aborting l i writes s) (drop_all k xs le)) ∙ was
