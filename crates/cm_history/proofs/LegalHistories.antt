-- The older part of a legal history is legal; how many sessions a history begins.
use Rattle.std.proofs.Common.{ℕ, ◌+◌, ◌≤◌, List, [], ◌∷◌, ◌++◌, length, take, drop, sym, subst, cond, Bool, true, false, arith}
use Rattle.std.specs.Prelude.{reverse}
use Rattle.std.specs.Option.{is_some}
use Rattle.std.proofs.lemmas.List.{reverse-append, take-append-drop}
use Rattle.cm_nmt.specs.Listing.{Listing}
use Rattle.cm_history.specs.declared.call.Entry.{Entry}
use Rattle.cm_history.specs.History.{begun_in, begun_number}
use Rattle.cm_history.specs.Legal.{IsLegal}

legal_before : (net : Listing) (later past : List Entry) → IsLegal net (later ++ past) → IsLegal net past
legal_before net [] past h = h
legal_before net (e ∷ later) past h = legal_before net later past h.1

-- entries before others, the oldest first
pub legal_first : (net : Listing) (front later : List Entry) → IsLegal net (reverse (front ++ later)) → IsLegal net (reverse front)
legal_first net front later h = legal_before net (reverse later) (reverse front) (subst (λ (es : List Entry). IsLegal net es) (reverse-append front later) h)

-- the first entries, the oldest first
pub legal_take : (net : Listing) (es : List Entry) (n : ℕ) → IsLegal net (reverse es) → IsLegal net (reverse (take n es))
legal_take net es n h = legal_first net (take n es) (drop n es) (subst (λ (x : List Entry). IsLegal net (reverse x)) (sym (take-append-drop n es)) h)

one_more : (b : Bool) (n k : ℕ) → n ≤ k → cond b (n + 1) n ≤ k + 1
one_more true n k h = omega arith
one_more false n k h = omega arith

-- as many sessions begun as entries at the most, of a history with its newest entry first
pub begun_most : (past : List Entry) → begun_in past ≤ length past
begun_most [] = omega arith
begun_most (e ∷ past) = omega (arith, one_more (is_some (begun_number e.reply)) (begun_in past) (length past) (begun_most past))
