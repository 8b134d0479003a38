-- What is kept of the values so far, with one more.
use Rattle.std.proofs.Common.{◌≡◌, ◌∙◌, ◌≤◌, ◌<◌, ◌⊎◌, ℕ, ◌+◌, ◌-◌, Bool, true, false, Some, None, inl, inr, get_or, List, [], ◌∷◌, ◌++◌, ap, sym, refl, arith, length, map, append_assoc}
use Rattle.std.proofs.lemmas.Bool.{le-leb, lt-leb}
use Rattle.std.proofs.lemmas.List.{map-append}
use Rattle.cm_telling.specs.Waiting.{AreKept, added, entry_of, is_handed, left_untold, next_told, placed_at, sums, total}
use Rattle.cm_telling.specs.declared.in_order.Placed.{Placed}
use Rattle.cm_telling.specs.declared.waiting.Untold.{Untold}
use Rattle.cm_telling.specs.declared.waiting.Waiting.{Waiting}

total_more : (sum : ℕ) (counts : List ℕ) (n : ℕ) → total sum (counts ++ n ∷ []) ≡ added (total sum counts) n
total_more sum [] n = refl
total_more sum (c ∷ counts) n = total_more (added sum c) counts n

sums_more : (sum : ℕ) (counts : List ℕ) (n : ℕ) → sums sum (counts ++ n ∷ []) ≡ sums sum counts ++ added (total sum counts) n ∷ []
sums_more sum [] n = refl
sums_more sum (c ∷ counts) n = ap (λ (xs : List ℕ). added sum c ∷ xs) (sums_more (added sum c) counts n)

module _ {T : Type 0} where
  -- of what was told, and then of what waits, with one more behind
  map_more : {B : Type 0} (f : Untold T → B) (said items : List (Untold T)) (u : Untold T) → map f (said ++ (items ++ u ∷ [])) ≡ map f (said ++ items) ++ f u ∷ []
  map_more f said items u = ap (map f) (sym (append_assoc said items (u ∷ []))) ∙ map-append f (said ++ items) (u ∷ [])

  pub kept_more : (before after : Waiting T) (said : List (Untold T)) (given : List (Placed T)) (counts : List ℕ) (u : Untold T) (n : ℕ) → AreKept before said given counts
      → after.untold.items ≡ before.untold.items ++ u ∷ [] → after.frames ≡ u.frames → u.place ≡ length given + 1 → u.frames ≡ added before.frames n
      → AreKept after said (given ++ placed_at (length given) u.value ∷ []) (counts ++ n ∷ [])
  kept_more before after said given counts u n kept items is place sum =
      let place_before : u.place - 1 ≡ length given = omega (arith, place) in
      let sum_is : u.frames ≡ added (total 0 counts) n = sum ∙ ap (λ (k : ℕ). added k n) kept.total in
      record {
        each =
            ap (λ (us : List (Untold T)). map entry_of (said ++ us)) items
            ∙ map_more entry_of said before.untold.items u
            ∙ ap (λ (es : List (Placed T)). es ++ entry_of u ∷ []) kept.each
            ∙ ap (λ (p : ℕ). given ++ placed_at p u.value ∷ []) place_before;
        sums =
            ap (λ (us : List (Untold T)). map (λ (v : Untold T). v.frames) (said ++ us)) items
            ∙ map_more (λ (v : Untold T). v.frames) said before.untold.items u
            ∙ ap (λ (ks : List ℕ). ks ++ u.frames ∷ []) kept.sums
            ∙ ap (λ (k : ℕ). sums 0 counts ++ k ∷ []) sum_is
            ∙ sym (sums_more 0 counts n);
        total = is ∙ sum_is ∙ sym (total_more 0 counts n);
      }

  -- and with the first that waits told
  pub kept_next : (before after : Waiting T) (said : List (Untold T)) (given : List (Placed T)) (counts : List ℕ) (u : Untold T) → AreKept before said given counts
      → before.untold.items ≡ u ∷ after.untold.items → after.frames ≡ before.frames → AreKept after (said ++ u ∷ []) given counts
  kept_next before after said given counts u kept items is =
      let same : (said ++ u ∷ []) ++ after.untold.items ≡ said ++ before.untold.items =
      append_assoc said (u ∷ []) after.untold.items ∙ ap (λ (us : List (Untold T)). said ++ us) (sym items) in
      record {
        each = ap (map entry_of) same ∙ kept.each;
        sums = ap (map (λ (v : Untold T). v.frames)) same ∙ kept.sums;
        total = is ∙ kept.total;
      }

  -- the first that waits is told, and the others are left
  pub told_first : (items rest : List (Untold T)) (u first : Untold T) (handed : ℕ) (end : Bool) → items ≡ u ∷ rest → first ≡ get_or items 0 first
      → (first.frames ≤ handed) ⊎ ((handed < first.frames) × (end ≡ true))
      → (Some (u, is_handed handed first) ≡ next_told items handed end) × (rest ≡ left_untold items handed end)
  told_first [] rest u first handed end e same due = absurd (cc)
  told_first (v ∷ vs) rest u first handed end e same (inl soon) =
      let one : u ≡ v = cc in
      let others : rest ≡ vs = cc in
      let test : is_handed handed v ≡ true = le-leb v.frames handed (rw same at soon) in
      rw (same, test) (ap (λ (w : Untold T). Some (w, true)) one, others)
  told_first (v ∷ vs) rest u first handed end e same (inr late) =
      let one : u ≡ v = cc in
      let others : rest ≡ vs = cc in
      let test : is_handed handed v ≡ false = lt-leb v.frames handed (rw same at late.0) in
      rw (same, test, late.1) (ap (λ (w : Untold T). Some (w, false)) one, others)

  -- none is told, and all are left
  pub told_none : (items : List (Untold T)) (first : Untold T) (handed : ℕ) (end : Bool) → 0 < length items → first ≡ get_or items 0 first
      → (handed < first.frames) × (end ≡ false) → (None ≡ next_told items handed end) × (items ≡ left_untold items handed end)
  told_none [] first handed end some same late = absurd (omega arith)
  told_none (v ∷ vs) first handed end some same late =
      let test : is_handed handed v ≡ false = lt-leb v.frames handed (rw same at late.0) in
      rw (test, late.1) (refl, refl)
