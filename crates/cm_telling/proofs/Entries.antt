-- Entries at places of a list, and in the order of their positions.
use Rattle.std.proofs.Common.{inl, inr, subst, ◌≡◌, ◌≢◌, ◌∙◌, ℕ, zero, suc, ◌+◌, ◌<◌, ◌==◌, List, [], ◌∷◌, ◌++◌, ap, sym, refl, arith, length, length-append, take, drop, get_or, drop-cons, cond, true, false, Option, Some, None, eq-eqb, below_more}
use Rattle.std.proofs.lemmas.List.{take-append-drop, take_more}
use Rattle.std.proofs.lemmas.Bool.Decides.{eqb_tells}
use Rattle.std.proofs.lemmas.Grind.{common_steps}
use Rattle.std.proofs.lemmas.Option.{none-some, same_Some, slice_get-get_or}
use Rattle.std.specs.Option.{option_or}
use Rattle.std.specs.List.{slice_get, remove}
use Rattle.cm_telling.specs.InOrder.{entry_at, Holds, IsFirstAt}
use Rattle.cm_telling.specs.Waiting.{placed_at}
use Rattle.cm_telling.specs.declared.in_order.Placed.{Placed}
use Rattle.cm_telling.specs.declared.in_order.InOrder.{InOrder}

-- another position isn't this one
apart : (m p q : ℕ) → m ≡ p → q ≢ p → (m == q) ≡ false
apart m p q at other = grind (arith, common_steps)

module _ {T : Type 0} where
  -- the first of two lists that has one
  pub entry_at-append : (xs ys : List (Placed T)) (p : ℕ) → entry_at (xs ++ ys) p ≡ option_or (entry_at xs p) (entry_at ys p)
  entry_at-append [] ys p = refl
  entry_at-append (x ∷ xs) ys p =
      elim (x.position == p) as (λ b. cond b (Some x) (entry_at (xs ++ ys) p) ≡ option_or (cond b (Some x) (entry_at xs p)) (entry_at ys p)) [
        | true ↦ refl
        | false ↦ entry_at-append xs ys p
      ]

  -- a list round place i
  split_at : (xs : List (Placed T)) (i : ℕ) (e : Placed T) → i < length xs → e ≡ get_or xs i e → xs ≡ take i xs ++ (e ∷ drop (suc i) xs)
  split_at xs i e within is =
      sym (take-append-drop i xs)
      ∙ ap (λ (ys : List (Placed T)). take i xs ++ ys) (drop-cons xs i e within)
      ∙ ap (λ (y : Placed T). take i xs ++ (y ∷ drop (suc i) xs)) (sym is)

  passes : (e : Placed T) (rest : List (Placed T)) (p q : ℕ) → e.position ≡ p → q ≢ p → entry_at (e ∷ rest) q ≡ entry_at rest q
  passes e rest p q at other = ap (λ b. cond b (Some e) (entry_at rest q)) (apart e.position p q at other)

  meets : (e : Placed T) (rest : List (Placed T)) (p : ℕ) → e.position ≡ p → entry_at (e ∷ rest) p ≡ Some e
  meets e rest p at = ap (λ b. cond b (Some e) (entry_at rest p)) (eq-eqb e.position p at)

  -- the entry that is found
  found_at : (xs : List (Placed T)) (i p : ℕ) (e : Placed T) → IsFirstAt xs i p → e ≡ get_or xs i e → entry_at xs p ≡ Some e
  found_at xs i p e first is =
      let at : e.position ≡ p = ap (λ (x : Placed T). x.position) is ∙ first.here e in
      ap (λ (ys : List (Placed T)). entry_at ys p) (split_at xs i e first.within is)
      ∙ entry_at-append (take i xs) (e ∷ drop (suc i) xs) p
      ∙ ap (λ o. option_or o (entry_at (e ∷ drop (suc i) xs) p)) first.before
      ∙ meets e (drop (suc i) xs) p at

  -- the others, once it is taken out
  others_at : (xs : List (Placed T)) (i p q : ℕ) (e : Placed T) → IsFirstAt xs i p → e ≡ get_or xs i e → q ≢ p → entry_at (remove xs i) q ≡ entry_at xs q
  others_at xs i p q e first is other =
      let at : e.position ≡ p = ap (λ (x : Placed T). x.position) is ∙ first.here e in
      entry_at-append (take i xs) (drop (suc i) xs) q
      ∙ ap (λ o. option_or (entry_at (take i xs) q) o) (sym (passes e (drop (suc i) xs) p q at other))
      ∙ sym (entry_at-append (take i xs) (e ∷ drop (suc i) xs) q)
      ∙ sym (ap (λ (ys : List (Placed T)). entry_at ys q) (split_at xs i e first.within is))

  -- one more at the end of a list
  get_before : (xs : List (Placed T)) (e : Placed T) (p : ℕ) → p < length xs → slice_get (xs ++ e ∷ []) p ≡ slice_get xs p
  get_before [] e p low = absurd (omega arith)
  get_before (x ∷ xs) e zero low = refl
  get_before (x ∷ xs) e (suc p) low = get_before xs e p (omega arith)

  get_at : (xs : List (Placed T)) (e : Placed T) → slice_get (xs ++ e ∷ []) (length xs) ≡ Some e
  get_at [] e = refl
  get_at (x ∷ xs) e = get_at xs e

  -- one more came
  pub came_more : (o after : InOrder T) (arrived told : List (Placed T)) (e : Placed T) → Holds o arrived told → after.next ≡ o.next → after.waiting.items ≡ o.waiting.items ++ e ∷ [] → Holds after (arrived ++ e ∷ []) told
  came_more o after arrived told e holds same items = record {
    count = same ∙ holds.count;
    each = λ p low.
        let there : slice_get told p ≡ Some (get_or told p e) = slice_get-get_or told p e low in
        entry_at-append arrived (e ∷ []) p ∙ ap (λ o. option_or o (entry_at (e ∷ []) p)) (holds.each p low ∙ there) ∙ sym there;
    waiting = λ p high.
        ap (λ (ys : List (Placed T)). entry_at ys p) items
        ∙ entry_at-append o.waiting.items (e ∷ []) p
        ∙ ap (λ o. option_or o (entry_at (e ∷ []) p)) (holds.waiting p high)
        ∙ sym (entry_at-append arrived (e ∷ []) p);
  }

  -- the next was told
  pub told_more : (o after : InOrder T) (arrived told : List (Placed T)) (i : ℕ) (e : Placed T) → Holds o arrived told → IsFirstAt o.waiting.items i o.next → e ≡ get_or o.waiting.items i e → after.next ≡ o.next + 1 → after.waiting.items ≡ remove o.waiting.items i → Holds after arrived (told ++ e ∷ [])
  told_more o after arrived told i e holds first is counted left =
      let longer : length (told ++ e ∷ []) ≡ length told + 1 = length-append told (e ∷ []) in
      let count = holds.count in
      record {
        count = omega (arith, counted, count, longer);
        each = λ p low. below_more (λ k. entry_at arrived k ≡ slice_get (told ++ e ∷ []) k) (length told)
            (λ k below. holds.each k below ∙ sym (get_before told e k below))
            (sym (holds.waiting (length told) (omega arith)) ∙ ap (λ n. entry_at o.waiting.items n) (sym count) ∙ found_at o.waiting.items i o.next e first is ∙ sym (get_at told e))
            p (omega (arith, low, longer));
        waiting = λ p high.
            let other : p ≢ o.next = omega (arith, high, longer, count) in
            ap (λ (ys : List (Placed T)). entry_at ys p) left ∙ others_at o.waiting.items i o.next p e first is other ∙ holds.waiting p (omega (arith, high, longer));
      }

  -- one entry more isn't that of the position
  pub none_more : (xs : List (Placed T)) (i p : ℕ) (e : Placed T) → i < length xs → e ≡ get_or xs i e → e.position ≢ p → entry_at (take i xs) p ≡ None → entry_at (take (i + 1) xs) p ≡ None
  none_more xs i p e within is other none =
      ap (λ (ys : List (Placed T)). entry_at ys p) (take_more xs i e within)
      ∙ entry_at-append (take i xs) (get_or xs i e ∷ []) p
      ∙ ap (λ (o : Option (Placed T)). option_or o (entry_at (get_or xs i e ∷ []) p)) none
      ∙ ap (λ (y : Placed T). entry_at (y ∷ []) p) (sym is)
      ∙ passes e [] e.position p refl (λ same. other (sym same))

  -- what is found at a position has it
  position_at : (xs : List (Placed T)) (p : ℕ) (e : Placed T) → entry_at xs p ≡ Some e → e.position ≡ p
  position_at [] p e is = absurd (none-some e is)
  position_at (x ∷ xs) p e is =
      elim (eqb_tells x.position p) [
        | inl same ↦ sym (ap (λ (y : Placed T). y.position) (same_Some x e (sym (meets x xs p same.1) ∙ is))) ∙ same.1
        | inr other ↦ position_at xs p e (sym (passes x xs x.position p refl (λ same. other.1 (sym same))) ∙ is)
      ]

  -- what is told next has the place behind what was told
  pub placed_next : (o : InOrder T) (arrived told : List (Placed T)) (e : Placed T) → Holds o arrived (told ++ e ∷ []) → Holds o arrived (told ++ placed_at (length told) e.value ∷ [])
  placed_next o arrived told e holds =
      let longer : length (told ++ e ∷ []) ≡ length told + 1 = length-append told (e ∷ []) in
      let within : length told < length (told ++ e ∷ []) = omega (arith, longer) in
      let at : e.position ≡ length told = position_at arrived (length told) e (holds.each (length told) within ∙ get_at told e) in
      subst (λ (x : Placed T). Holds o arrived (told ++ x ∷ [])) (ap (λ (p : ℕ). placed_at p e.value) at) holds
