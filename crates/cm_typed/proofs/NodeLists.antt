-- The nodes of a list, one part more.
use Rattle.std.proofs.Common.{◌≡◌, ℕ, ◌+◌, ◌≤◌, ◌==◌, Bool, true, false, List, [], ◌∷◌, refl, sym, ap, ◌∙◌, Some, None, nat_le, nat_lt, arith}
use Rattle.std.specs.Prelude.{◌||◌, ◌&&◌, Option, is_some}
use Rattle.std.specs.List.{list_all, list_any}
use Rattle.std.proofs.lemmas.Bool.Decides.{nat_tests}
use Rattle.std.proofs.Math.Bool.{or-false}
use Rattle.cm_text.specs.Words.{Words}
use Rattle.cm_typed.specs.NodeLists.{covers, is_in, range_in}
use Rattle.cm_typed.specs.declared.node_lists.NodeRange.{NodeRange}

-- each part is a range
abbrev pub spelled : Words → Bool
spelled ws = list_all (λ part. is_some (range_in part)) ws

-- one of the parts has the node
abbrev pub has_one : Words → ℕ → Bool
has_one ws i = list_any (λ part. is_in (range_in part) i) ws

pub spelled_more : (ws rest : Words) (w : List ℕ) (r : NodeRange) (all : Bool) → ws ≡ w ∷ rest → Some r ≡ range_in w → spelled ws ≡ all → spelled rest ≡ all
spelled_more ws rest w r all is e was = ap (λ (o : Option NodeRange). is_some o && spelled rest) e ∙ (ap (λ (l : Words). spelled l) (sym is) ∙ was)

pub spelled_none : (ws rest : Words) (w : List ℕ) (all : Bool) → ws ≡ w ∷ rest → None ≡ range_in w → spelled ws ≡ all → all ≡ false
spelled_none ws rest w all is e was =
    sym (ap (λ (o : Option NodeRange). is_some o && spelled rest) e ∙ (ap (λ (l : Words). spelled l) (sym is) ∙ was))

pub spelled_all : (ws : Words) (all : Bool) → ws ≡ [] → spelled ws ≡ all → all ≡ true
spelled_all ws all is was = sym (ap (λ (l : Words). spelled l) (sym is) ∙ was)

turned : (a b c : Bool) → ((a || b) || c) ≡ (b || (a || c))
turned true true c = refl
turned true false c = refl
turned false true c = refl
turned false false c = refl

pub nodes_more : (ws rest : Words) (w : List ℕ) (r : NodeRange) (i : ℕ) (old new all : Bool) → ws ≡ w ∷ rest → Some r ≡ range_in w → new ≡ (covers r i || old)
    → (old || has_one ws i) ≡ all → (new || has_one rest i) ≡ all
nodes_more ws rest w r i old new all is e made was =
    ap (λ (b : Bool). b || has_one rest i) made
    ∙ (turned (covers r i) old (has_one rest i)
    ∙ (ap (λ (o : Option NodeRange). old || (is_in o i || has_one rest i)) e
    ∙ (ap (λ (l : Words). old || has_one l i) (sym is) ∙ was)))

pub nodes_all : (ws : Words) (i : ℕ) (old all : Bool) → ws ≡ [] → (old || has_one ws i) ≡ all → old ≡ all
nodes_all ws i old all is was = sym (or-false old) ∙ (ap (λ (l : Words). old || has_one l i) (sym is) ∙ was)

-- ---- the nodes of a range

-- the nodes from the first one on, below this one
abbrev pub below : ℕ → ℕ → ℕ → Bool
below first n i = nat_le first i && nat_lt i n

below_none : (first i : ℕ) → below first first i ≡ false
below_none first i = grind (arith, nat_tests)

below_more : (first n i : ℕ) → first ≤ n → (n == i || below first n i) ≡ below first (n + 1) i
below_more first n i le = grind (arith, nat_tests)

below_last : (first last n i : ℕ) → n ≡ last + 1 → below first n i ≡ (nat_le first i && nat_le i last)
below_last first last n i e = grind (arith, nat_tests)

or_or : (a b c : Bool) → (a || (b || c)) ≡ ((a || b) || c)
or_or true b c = refl
or_or false b c = refl

pub range_begins : (first i : ℕ) (old : Bool) → old ≡ (below first first i || old)
range_begins first i old = sym (ap (λ (b : Bool). b || old) (below_none first i))

pub range_more : (first n i : ℕ) (old now new : Bool) → first ≤ n → now ≡ (below first n i || old) → new ≡ (n == i || now) → new ≡ (below first (n + 1) i || old)
range_more first n i old now new le was made =
    made ∙ (ap (λ (b : Bool). n == i || b) was ∙ (or_or (n == i) (below first n i) old ∙ ap (λ (b : Bool). b || old) (below_more first n i le)))

pub range_ends : (r : NodeRange) (n i : ℕ) (old now : Bool) → n ≡ r.last + 1 → now ≡ (below r.first n i || old) → now ≡ (covers r i || old)
range_ends r n i old now e was = was ∙ ap (λ (b : Bool). b || old) (below_last r.first r.last n i e)
