use Rattle.std.proofs.Common.{◌≡◌, ℕ, true, List, [], ◌∷◌, Option, Some, None, IfSome, inl, ap, refl, sym, ◌∙◌}
use Rattle.std.specs.Str.{IsTrimAscii}
use Rattle.cm_text.specs.Words.{Words, split}
use Rattle.cm_text.specs.FieldReading.{is_empty}
use Rattle.cm_device.specs.DeviceFiles.{AreSummed, IsNoNumber, IsNumber}
use Rattle.cm_device.proofs.Numbers.{no_number_of_more, no_number_of_two, none_if}
use Rattle.cm_device.proofs.device_number.number.Goals as goal

none_left : (ws : Words) → is_empty ws ≡ true → ws ≡ []
none_left [] e = refl
none_left (w ∷ ws) e = cc

of_sum : (node : ℕ) (text front back one other : List ℕ) (r : Option ℕ) → split 43 text ≡ front ∷ back ∷ []
    → IsTrimAscii front one → IsTrimAscii back other → IfSome r (λ n. AreSummed node one other n) → IfSome r (λ n. IsNumber node text n)
of_sum node text front back one other None parts p q summed = tt
of_sum node text front back one other (Some n) parts p q summed = inl record {
  front = front;
  back = back;
  parts = parts;
  one = one;
  other = other;
  one_is = p;
  other_is = q;
  summed = summed;
}

pub returns-clause-number : goal.returns-clause-number
returns-clause-number c =
    let first = c.in_ok-first.first.now in
    let second = c.in-Some.second.now in
    of_sum c.args.node c.args.text.now first second c.trim_ascii.result.now c.trim_ascii-2.result.now c.sum.result
    (sym c.new-parts.ensures ∙ c.in_ok-first.ensures ∙ ap (λ (ws : Words). first ∷ ws) c.in-Some.ensures
    ∙ ap (λ (ws : Words). first ∷ second ∷ ws) (none_left _ (sym c.is_done.ensures ∙ c.if-not-is_done.false)))
    c.trim_ascii.ensures.value c.trim_ascii-2.ensures.value c.sum.ensures.number

pub returns-then-not-is_done-clause-none : goal.returns-then-not-is_done-clause-none
returns-then-not-is_done-clause-none c =
    let first = c.in_ok-first.first.now in
    let second = c.in-Some.second.now in
    no_number_of_more c.args.node c.args.text.now first second _ (sym c.is_done.ensures ∙ c.if-not-is_done.true)
    (sym c.new-parts.ensures ∙ c.in_ok-first.ensures ∙ ap (λ (ws : Words). first ∷ ws) c.in-Some.ensures)
    (c.is_node_id.ensures.other c.if-is_node_id.false)

pub returns-clause-none : goal.returns-clause-none
returns-clause-none c =
    let node = c.args.node in
    let text = c.args.text.now in
    let first = c.in_ok-first.first.now in
    let second = c.in-Some.second.now in
    let one = c.trim_ascii.result.now in
    let other = c.trim_ascii-2.result.now in
    none_if c.sum.result ((n : ℕ) → AreSummed node one other n → ⊥) (IsNoNumber node text)
    (no_number_of_two node text first second one other
    (sym c.new-parts.ensures ∙ c.in_ok-first.ensures ∙ ap (λ (ws : Words). first ∷ ws) c.in-Some.ensures
    ∙ ap (λ (ws : Words). first ∷ second ∷ ws) (none_left _ (sym c.is_done.ensures ∙ c.if-not-is_done.false)))
    c.trim_ascii.ensures.value c.trim_ascii-2.ensures.value (c.is_node_id.ensures.other c.if-is_node_id.false))
    c.sum.ensures.none
