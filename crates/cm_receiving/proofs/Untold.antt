-- How many lines are left until it is told that none is a frame.
use Rattle.std.proofs.Common.{◌≡◌, ◌+◌, ◌-◌, ◌++◌, ◌∷◌, ◌∙◌, [], ℕ, Bool, true, false, List, length, refl, sym, ap, arith, length-append}
use Rattle.std.specs.Prelude.{◌==◌, ◌&&◌, ◌||◌, not, if◌then◌else◌}
use Rattle.std.proofs.lemmas.List.Folds.{list_any-append}
use Rattle.std.proofs.lemmas.Bool.Decides.{nat_tests}
use Rattle.cm_receiving.specs.Strangers.{has_frame, is_told, is_told_behind, left_behind, left_of}

-- whether one of the lines is a frame, and how many there are, with one line more
has_more : (lines : List Bool) (x : Bool) → has_frame (lines ++ x ∷ []) ≡ (has_frame lines || (x || false))
has_more lines x = list_any-append (λ (b : Bool). b) lines (x ∷ [])

left_with : (has x : Bool) (n : ℕ) → left_behind (if has then 0 else 16 - n) x ≡ (if has || (x || false) then 0 else 16 - (n + 1))
left_with true true n = refl
left_with true false n = refl
left_with false true n = refl
left_with false false n = omega arith

pub left_more : (lines : List Bool) (x : Bool) (left : ℕ) → left ≡ left_of lines → left_behind left x ≡ left_of (lines ++ x ∷ [])
left_more lines x left e =
    ap (λ (k : ℕ). left_behind k x) e
    ∙ (left_with (has_frame lines) x (length lines)
    ∙ sym (ap (λ (b : Bool). if b then 0 else 16 - length (lines ++ x ∷ [])) (has_more lines x) ∙ ap (λ (k : ℕ). if has_frame lines || (x || false) then 0 else 16 - k) (length-append lines (x ∷ []))))

last_one : (n : ℕ) → (16 - n == 1) ≡ (n + 1 == 16)
last_one n = grind (arith, nat_tests)

told_with : (has x : Bool) (n : ℕ) → is_told (if has then 0 else 16 - n) x ≡ (not (has || (x || false)) && (n + 1 == 16))
told_with true true n = refl
told_with true false n = refl
told_with false true n = refl
told_with false false n = last_one n

pub told_more : (lines : List Bool) (x : Bool) (left : ℕ) → left ≡ left_of lines → is_told left x ≡ is_told_behind (lines ++ x ∷ [])
told_more lines x left e =
    ap (λ (k : ℕ). is_told k x) e
    ∙ (told_with (has_frame lines) x (length lines)
    ∙ sym (ap (λ (b : Bool). not b && (length (lines ++ x ∷ []) == 16)) (has_more lines x) ∙ ap (λ (k : ℕ). not (has_frame lines || (x || false)) && (k == 16)) (length-append lines (x ∷ []))))
