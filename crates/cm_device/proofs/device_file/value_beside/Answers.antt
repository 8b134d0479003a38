use Rattle.std.proofs.Common.{◌≡◌, ℕ, ◌+◌, ◌-◌, ◌<◌, List, refl, drop, get_or, length, take, sym, ap, ◌∙◌, subst, arith}
use Rattle.std.proofs.lemmas.List.{get_or-drop, get_or-take}
use Rattle.cm_text.proofs.Fronts.{same}
use Rattle.cm_device.specs.DeviceFiles.{AreSame, Has, behind_mark}
use Rattle.cm_device.specs.FileLines.{AreOf, HasKey}
use Rattle.cm_device.specs.declared.device_file.Item.{Item}
use Rattle.cm_device.proofs.device_file.value_beside.Goals as goal

-- an item of a part is one of all
part_has : (file : List ℕ) (items own : List Item) (first j : ℕ) (d : Item) (section bytes name : List ℕ) → AreOf file items
    → own ≡ take (length items - first) (drop first items) → length own + first ≡ length items → j < length own
    → (get_or own j d).section.now ≡ section → AreSame (get_or own j d).key.now bytes → bytes ≡ name → HasKey file section name (get_or own j d).value.now
part_has file items own first j d section bytes name all is long low same_section same_key is_name =
    let at : get_or own j d ≡ get_or items (first + j) d =
    ap (λ (xs : List Item). get_or xs j d) is ∙ get_or-take (length items - first) (drop first items) j d (omega (arith, low, long)) ∙ get_or-drop first items j d in
    let it : Has (behind_mark file) (get_or own j d).section.now (get_or own j d).key.now (get_or own j d).value.now =
    subst (λ (i : Item). Has (behind_mark file) i.section.now i.key.now i.value.now) (sym at) (all (first + j) d (omega (arith, low, long))) in
    ((get_or own j d).key.now, subst (λ (s : List ℕ). Has (behind_mark file) s (get_or own j d).key.now (get_or own j d).value.now) same_section it, subst (AreSame (get_or own j d).key.now) is_name same_key)

pub returns-then-is_same : goal.returns-then-is_same
returns-then-is_same c = λ file all.
    let part = c.in_ok-own.ensures.lookup.0 in
    part_has file c.args.items.now c.in_ok-own.own.now c.args.beside.now.first c.loop-item.item-index _ _ _ _ all part.2 part.3 c.loop-item-test.true
    (same _ _ (sym c.is_word.ensures ∙ c.if-not-is_word.false)) (c.if-is_same.ensures.same refl) c.as_bytes.ensures.value
