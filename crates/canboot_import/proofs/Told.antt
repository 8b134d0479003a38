-- The lines that tell of what is no number.
use Rattle.std.proofs.Common.{◌≡◌, ℕ, List, [], ◌++◌, Option, Some, Result, Ok, Err, IfErr, OnOk, append_assoc, ap, refl, sym, subst, ◌∙◌}
use Rattle.std.specs.Prelude.{codes}
use Rattle.std.specs.Io.KnownBytes.{Appends}
use Rattle.std.proofs.KnownBytes.{Appends-nil, Appends-trans}
use Rattle.canboot_import.specs.Imports.{IsTold, unread_line}
use Rattle.canboot_import.specs.LinesRead.{AreTold, IsLineOf, Tells, TellsAll}
use Rattle.cm_device.specs.declared.device_file.Item.{Item}
use Rattle.canboot_import.specs.declared.imported.Identity.{Identity}

-- nothing is told of a number
pub tells_none : (front part : List ℕ) (found : Result ℕ Item) (n : ℕ) (old : Option (List ℕ)) → found ≡ Ok n → Tells front part found old old
tells_none front part found n old is = ([], subst (λ (f : Result ℕ Item). IsLineOf front part f []) (sym is) refl, Appends-nil old)

-- and a line of what is none
pub tells_line : {X E : Type 0} (r : Result X E) (front part : List ℕ) (found : Result ℕ Item) (item : Item) (shown : List ℕ) (old new : Option (List ℕ)) → found ≡ Err item
    → OnOk r (Appends old new (unread_line front part shown item.line)) → OnOk r (Tells front part found old new)
tells_line (Ok x) front part found item shown old new is written =
    let text = unread_line front part shown item.line in
    (text, subst (λ (f : Result ℕ Item). IsLineOf front part f text) (sym is) (shown, refl), written)
tells_line (Err e) front part found item shown old new is written = tt

-- the lines of all parts, one behind another
pub tells_all : {X E : Type 0} (r : Result X E) (front : List ℕ) (found : Identity) (a b c d e f : Option (List ℕ))
    → Tells front (codes "1000h, device type") found.device_type a b → Tells front (codes "1018h sub 1, vendor-ID") found.vendor b c
    → Tells front (codes "1018h sub 2, product code") found.product c d → Tells front (codes "1018h sub 3, revision number") found.revision d e
    → OnOk r (Tells front (codes "1018h sub 4, serial number") found.serial e f) → OnOk r (TellsAll front found a f)
tells_all (Ok x) front found a b c d e f (s, s_is, s_to) (t, t_is, t_to) (u, u_is, u_to) (v, v_is, v_to) (w, w_is, w_to) = record {
  device_type = s;
  vendor = t;
  product = u;
  revision = v;
  serial = w;
  device_type_is = s_is;
  vendor_is = t_is;
  product_is = u_is;
  revision_is = v_is;
  serial_is = w_is;
  written = Appends-trans a b f s (t ++ (u ++ (v ++ w))) s_to
      (Appends-trans b c f t (u ++ (v ++ w)) t_to (Appends-trans c d f u (v ++ w) u_to (Appends-trans d e f v w v_to w_to)));
}
tells_all (Err x) front found a b c d e f p q s t u = tt

-- a line among others
told_in : (found : Result ℕ Item) (told part before text behind : List ℕ) → IsLineOf (codes "not compared: ") part found text → told ≡ before ++ (text ++ behind)
    → IfErr found (λ item. IsTold told part)
told_in (Ok n) told part before text behind line same = tt
told_in (Err item) told part before text behind (shown, is) same = record {
  before = before;
  shown = shown;
  line = item.line;
  behind = behind;
  is = same ∙ ap (λ (t : List ℕ). before ++ (t ++ behind)) is;
}

module _ (found : Identity) (told rest a b c d e : List ℕ) (all : told ≡ a ++ (b ++ (c ++ (d ++ (e ++ rest))))) where
  behind_two : told ≡ (a ++ b) ++ (c ++ (d ++ (e ++ rest)))
  behind_two = all ∙ sym (append_assoc a b (c ++ (d ++ (e ++ rest))))

  behind_three : told ≡ ((a ++ b) ++ c) ++ (d ++ (e ++ rest))
  behind_three = behind_two ∙ sym (append_assoc (a ++ b) c (d ++ (e ++ rest)))

  behind_four : told ≡ (((a ++ b) ++ c) ++ d) ++ (e ++ rest)
  behind_four = behind_three ∙ sym (append_assoc ((a ++ b) ++ c) d (e ++ rest))

  pub are_told : IsLineOf (codes "not compared: ") (codes "1000h, device type") found.device_type a
      → IsLineOf (codes "not compared: ") (codes "1018h sub 1, vendor-ID") found.vendor b
      → IsLineOf (codes "not compared: ") (codes "1018h sub 2, product code") found.product c
      → IsLineOf (codes "not compared: ") (codes "1018h sub 3, revision number") found.revision d
      → IsLineOf (codes "not compared: ") (codes "1018h sub 4, serial number") found.serial e → AreTold found told
  are_told p q r s t = record {
    device_type = told_in found.device_type told (codes "1000h, device type") [] a (b ++ (c ++ (d ++ (e ++ rest)))) p all;
    vendor = told_in found.vendor told (codes "1018h sub 1, vendor-ID") a b (c ++ (d ++ (e ++ rest))) q all;
    product = told_in found.product told (codes "1018h sub 2, product code") (a ++ b) c (d ++ (e ++ rest)) r behind_two;
    revision = told_in found.revision told (codes "1018h sub 3, revision number") ((a ++ b) ++ c) d (e ++ rest) s behind_three;
    serial = told_in found.serial told (codes "1018h sub 4, serial number") (((a ++ b) ++ c) ++ d) e rest t behind_four;
  }

regrouped : (a b c d e rest : List ℕ) → (a ++ (b ++ (c ++ (d ++ e)))) ++ rest ≡ a ++ (b ++ (c ++ (d ++ (e ++ rest))))
regrouped a b c d e rest = simp append_assoc

-- the lines that were written to nothing, and others behind them
pub told_lines : (found : Identity) (start written told rest : List ℕ) → start ≡ [] → TellsAll (codes "not compared: ") found (Some start) (Some written)
    → told ≡ written ++ rest → AreTold found told
told_lines found start written told rest none tells same =
    let a = tells.device_type in
    let b = tells.vendor in
    let c = tells.product in
    let d = tells.revision in
    let e = tells.serial in
    let lines = a ++ (b ++ (c ++ (d ++ e))) in
    let all : told ≡ a ++ (b ++ (c ++ (d ++ (e ++ rest)))) =
    same ∙ ap (λ (w : List ℕ). w ++ rest) (tells.written ∙ ap (λ (s : List ℕ). s ++ lines) none) ∙ regrouped a b c d e rest in
    are_told found told rest a b c d e all tells.device_type_is tells.vendor_is tells.product_is tells.revision_is tells.serial_is
