-- The keys and the values of a table of names, and words that are numbers of nodes.
use Rattle.std.proofs.Common.{◌≡◌, ◌∙◌, ℕ, zero, suc, ◌==◌, ◌≤◌, Bool, true, false, not, cond, ◌||◌, List, [], ◌∷◌, Option, Some, None, String, Global, string_bytes, refl, ap, sym, subst, arith, ne_eqb}
use Rattle.std.specs.Prelude.{◌↔◌, decimal, if◌then◌else◌, is_none, option_and_then, IsSome, IfSome}
use Rattle.std.specs.List.{list_any, join_with_byte}
use Rattle.std.specs.Map.{keys_of, values_of}
use Rattle.std.proofs.lemmas.List.Splits.{join_with_byte-slice_split}
use Rattle.std.proofs.lemmas.Option.{some_pair_parts}
use Rattle.toml.specs.Data.{Members, as_str}
use Rattle.toml.specs.View.{view, members_view}
use Rattle.toml.specs.declared.value.Value.{Value}
use Rattle.cm_nmt.specs.NodeId.{IsNodeId}
use Rattle.cm_text.specs.Decimal.{dec_of}
use Rattle.cm_text.specs.FieldReading.{with_rest, field_at, is_empty}
use Rattle.cm_text.specs.Words.{Words, split}
use Rattle.cm_text.proofs.Decimals.{dec_exact, dec_of_decimal, dec_of_takes}
use Rattle.cm_text.proofs.Fronts.{field_takes}
use Rattle.cm_text.proofs.Plain.{decimal_plain, split_last}
use Rattle.cm_shown.specs.Names.{node_of, is_name, has_bad_node, has_bad_name, table_fault}
use Rattle.cm_shown.specs.declared.names.NamesFault.TheVariants.{BadNode, BadName}

-- ---- tables

-- the code's keys as those of the table
pub bad_keys : (es : List (String Global × Value)) → list_any (λ k. is_none (node_of (string_bytes k))) (keys_of es) ≡ has_bad_node (members_view es)
bad_keys [] = refl
bad_keys (e ∷ es) = ap (λ b. is_none (node_of (string_bytes e.0)) || b) (bad_keys es)

-- the code's values as those of the table
pub bad_values : (es : List (String Global × Value)) → list_any (λ v. not (is_name (as_str (view v)))) (values_of es) ≡ has_bad_name (members_view es)
bad_values [] = refl
bad_values (e ∷ es) = ap (λ b. not (is_name (as_str (view e.1))) || b) (bad_values es)

-- ---- numbers

-- a word that is a number is its only field
only_field : (w : List ℕ) (n : ℕ) → dec_of 127 w ≡ Some n → field_at (dec_of 127) (split 32 w) ≡ Some (n, [])
unfolding field_at
only_field w n e =
    let t = dec_of_takes 127 w n e in
    let one : split 32 (decimal n) ≡ decimal n ∷ [] = split_last 32 (decimal n) (decimal_plain n (omega (arith, t.1))) in
    let whole : split 32 w ≡ w ∷ [] = subst (λ (v : List ℕ). split 32 v ≡ v ∷ []) (sym t.0) one in
    ap (field_at (dec_of 127)) whole ∙ ap (λ (o : Option ℕ). with_rest o []) e

nothing_left : (ws : Words) → is_empty ws ≡ true → ws ≡ []
nothing_left [] e = refl
nothing_left (w ∷ ws) e = absurd cc

-- a word with one field is that field
sole_word : (w : List ℕ) (n : ℕ) (ws : Words) → field_at (dec_of 127) (split 32 w) ≡ Some (n, ws) → ws ≡ [] → dec_of 127 w ≡ Some n
sole_word w n ws e none =
    let t = field_takes decimal (dec_of 127) (λ i. i ≤ 127) (dec_exact 127 (omega arith)) (split 32 w) (n, ws) e in
    let parts : split 32 w ≡ decimal n ∷ [] = t.0 ∙ ap (λ (vs : Words). decimal n ∷ vs) none in
    let same : w ≡ decimal n = sym (join_with_byte-slice_split 32 w) ∙ ap (join_with_byte 32) parts in
    ap (dec_of 127) same ∙ dec_of_decimal 127 n (omega arith) t.1

-- a word whose first field is no number is none itself
pub no_number : (w : List ℕ) → field_at (dec_of 127) (split 32 w) ≡ None → dec_of 127 w ≡ None
no_number w e = by (dec_of 127 w) refl
  where
    by : (o : Option ℕ) → dec_of 127 w ≡ o → o ≡ None
    by None is = refl
    by (Some n) is = let has = only_field w n is in absurd cc

-- a word whose first field is a number, and its last one, is that number
pub whole_number : (w : List ℕ) (n : ℕ) (ws : Words) → field_at (dec_of 127) (split 32 w) ≡ Some (n, ws) → is_empty ws ≡ true → dec_of 127 w ≡ Some n
whole_number w n ws e ends = sole_word w n ws e (nothing_left ws ends)

-- a word with more fields is no number
pub longer_word : (w : List ℕ) (n : ℕ) (ws : Words) → field_at (dec_of 127) (split 32 w) ≡ Some (n, ws) → is_empty ws ≡ false → dec_of 127 w ≡ None
longer_word w n ws e more = by (dec_of 127 w) refl
  where
    by : (o : Option ℕ) → dec_of 127 w ≡ o → o ≡ None
    by None is = refl
    by (Some m) is =
        let none = (some_pair_parts n m ws [] (sym e ∙ only_field w m is)).1 in
        let bad : true ≡ false = sym (ap is_empty none) ∙ more in
        absurd cc

-- ---- nodes

-- a word that is no number is no node's
pub no_node : (w : List ℕ) → dec_of 127 w ≡ None → None ≡ node_of w
no_node w e = sym (ap (option_and_then (λ i. if i == 0 then None else Some i)) e)

made : (o : Option ℕ) (n : ℕ) → (IsSome o ↔ IsNodeId n) → IfSome o (λ id. id ≡ n) → n ≤ 127 → o ≡ (if n == 0 then None else Some n)
made None zero valid value small = refl
made None (suc n) valid value small = let some : false ≡ true = valid.1 (omega arith, small) in absurd cc
made (Some id) zero valid value small = absurd (omega (arith, (valid.0 refl).0))
made (Some id) (suc n) valid value small =
    let other : (suc n == 0) ≡ false = ne_eqb (suc n) 0 (λ e. omega (arith, e)) in
    rw other (ap Some value)

-- the node that is made of a word's number is the word's
pub node_made : (w : List ℕ) (o : Option ℕ) (n : ℕ) → dec_of 127 w ≡ Some n → (IsSome o ↔ IsNodeId n) → IfSome o (λ id. id ≡ n) → n ≤ 127 → o ≡ node_of w
node_made w o n e valid value small =
    made o n valid value small ∙ sym (ap (option_and_then (λ i. if i == 0 then None else Some i)) e)

-- ---- faults

pub bad_node : (ms : Members) → has_bad_node ms ≡ true → Some BadNode ≡ table_fault ms
bad_node ms e = sym (ap (λ b. cond b (Some BadNode) (cond (has_bad_name ms) (Some BadName) None)) e)

pub good_nodes : (ms : Members) (b : Bool) → has_bad_node ms ≡ false → has_bad_name ms ≡ b → cond b (Some BadName) None ≡ table_fault ms
good_nodes ms b e f =
    sym (ap (λ x. cond x (Some BadNode) (cond (has_bad_name ms) (Some BadName) None)) e ∙ ap (λ x. cond x (Some BadName) None) f)
