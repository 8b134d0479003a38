-- Writes that are added one after another.
use Rattle.std.proofs.Common.{◌≡◌, ◌⊎◌, ℕ, true, eqb, List, [], ◌∷◌, ◌++◌, Option, Some, None, IfSome, Result, Ok, Err, OnOk, OnErr, inl, inr, sym, subst, arith}
use Rattle.std.specs.Prelude.{codes}
use Rattle.std.proofs.lemmas.Bool.{cases_Bool, eqb-true}
use Rattle.cm_nmt.specs.Size.{is_size}
use Rattle.cm_nmt.specs.Write.{write_with}
use Rattle.std.specs.List.{All}
use Rattle.std.proofs.lemmas.List.Elements.{All-append, All-cons}
use Rattle.arrayvec.specs.ArrayVec.{ArrayVec}
use Rattle.cm_nmt.specs.declared.write.Write.{Write}
use Rattle.cm_device.specs.DeviceFiles.{Has, IsPlain, IsTypedNumber, behind_mark, size_of}
use Rattle.cm_device.specs.FileValues.{IsSetting, IsTyped, IsValueKey, IsValueOf}
use Rattle.cm_device.specs.FileLines.{HasKey}
use Rattle.cm_device.specs.SettingsMade.{AllWrites, HasAdded, IsTypeOf}
use Rattle.cm_device.specs.declared.settings.Setting.{Setting}
use Rattle.cm_device.specs.declared.settings.Settings.{Settings}

-- one write more
pub one_added : (P : Write → Type 0) (old new : Settings) (w : Write) → AllWrites P old → P w → HasAdded old new w → AllWrites P new
one_added P old new w all holds (s, is, grown) =
    subst (All (λ (x : Setting). P x.write)) (sym grown)
    (All-append (λ (x : Setting). P x.write) old.settings.items (s ∷ []) all (All-cons (λ (x : Setting). P x.write) s [] (subst P (sym is) holds) (λ k d low. absurd (omega (arith, low)))))

-- and where it may fail
pub added_if : {T E : Type 0} (r : Result T E) (P : Write → Type 0) (old new : Settings) (w : Write) → AllWrites P old → P w → OnOk r (HasAdded old new w) → OnOk r (AllWrites P new)
added_if (Ok x) P old new w all holds added = one_added P old new w all holds added
added_if (Err e) P old new w all holds added = tt

-- the data type that a section has
pub type_of : (file section text : List ℕ) (r : Option ℕ) → HasKey file section (codes "DataType") text → IfSome r (IsPlain text) → IfSome r (IsTypeOf file section)
type_of file section text None has plain = tt
type_of file section text (Some d) (key, has, same) plain = record { key = key; written = text; has = has; key_is = same; plain = plain }

-- a number of that data type
pub typed : (file section text : List ℕ) (node data_type size n : ℕ) → IsTypeOf file section data_type → size_of data_type ≡ Some size
    → IsTypedNumber data_type size node text n → IsTyped file section node text size n
typed file section text node data_type size n is size_is number =
    record { key = is.key; written = is.written; data_type = data_type; has = is.has; key_is = is.key_is; plain = is.plain; is = size_is; number = number }

-- the same writes, where it may fail
pub kept_if : {T E : Type 0} (r : Result T E) (P : Write → Type 0) (old new : Settings) → AllWrites P old → OnOk r (new.settings.items ≡ old.settings.items) → OnOk r (AllWrites P new)
kept_if (Ok x) P old new all same = subst (All (λ (s : Setting). P s.write)) (sym same) all
kept_if (Err e) P old new all same = tt

size_is : (n : ℕ) → is_size n ≡ true → (n ≡ 1) ⊎ ((n ≡ 2) ⊎ (n ≡ 4))
size_is n e =
    elim (cases_Bool (eqb n 1)) [
      | inl one ↦ inl (eqb-true n 1 one)
      | inr a ↦ elim (cases_Bool (eqb n 2)) [
        | inl two ↦ inr (inl (eqb-true n 2 two))
        | inr b ↦ inr (inr (eqb-true n 4 (rw (a, b) at e)))
      ]
    ]

module _ (file section key text described : List ℕ) (node index sub n v : ℕ) (has : Has (behind_mark file) section key text)
    (key_is : IsValueKey file index sub section key described) (value : IsValueOf index sub n v) where
  -- the write of a value of the file is what the file sets
  pub setting : (size : ℕ) → is_size size ≡ true → IsTyped file described node text size n → IsSetting file node (write_with index sub size v)
  setting size is typed =
      let P : ℕ → Type 0 = λ z. IsTyped file described node text z n → IsSetting file node (write_with index sub z v) in
      elim (size_is size is) [
        | inl one ↦ subst P (sym one) (λ it. record { section = section; key = key; text = text; described = described; n = n; has = has; key_is = key_is; typed = it; value = value }) typed
        | inr (inl two) ↦ subst P (sym two) (λ it. record { section = section; key = key; text = text; described = described; n = n; has = has; key_is = key_is; typed = it; value = value }) typed
        | inr (inr four) ↦ subst P (sym four) (λ it. record { section = section; key = key; text = text; described = described; n = n; has = has; key_is = key_is; typed = it; value = value }) typed
      ]

-- one item more, where there is room
pub pushed : {T E X : Type 0} (r : Result T E) (P : X → Type 0) (old new : ArrayVec X) (x : X) → All P old.items → P x
    → OnOk r (new.items ≡ old.items ++ x ∷ []) → OnErr r (new ≡ old) → All P new.items
pushed (Ok y) P old new x all holds grown same =
    subst (All P) (sym grown) (All-append P old.items (x ∷ []) all (All-cons P x [] holds (λ k d low. absurd (omega (arith, low)))))
pushed {X = X} (Err e) P old new x all holds grown same = subst (λ (v : ArrayVec X). All P v.items) (sym same) all
