-- The last entry of a legal history, whose oldest entry comes first.
use Rattle.std.proofs.Common.{◌≡◌, List, [], ◌∷◌, ◌++◌, ap, sym, subst}
use Rattle.std.specs.Prelude.{reverse}
use Rattle.std.proofs.lemmas.List.{reverse-append}
use Rattle.cm_nmt.specs.Listing.{Listing}
use Rattle.cm_history.specs.declared.call.Entry.{Entry}
use Rattle.cm_history.specs.declared.call.Orders.{Orders}
use Rattle.cm_history.specs.declared.call.Reply.{Reply}
use Rattle.cm_history.specs.Legal.{IsAnswered, IsLegal, answered}

-- a legal history stays legal with the entry that is its next
pub legal_longer : (net : Listing) (h : List Entry) (e : Entry) → IsLegal net (reverse h) → IsAnswered net e (reverse h) → IsLegal net (reverse (h ++ e ∷ []))
legal_longer net h e legal next = subst (λ (es : List Entry). IsLegal net es) (sym (reverse-append h (e ∷ []))) (next, legal)

-- the last entry of a legal history is the one that its call makes
pub legal_made : (net : Listing) (h now : List Entry) (e : Entry) → now ≡ h ++ e ∷ [] → IsLegal net (reverse now) → e ≡ answered net (reverse h) e.seat e.call
legal_made net h now e is legal =
    let last : IsLegal net (reverse (h ++ e ∷ [])) = subst (λ (es : List Entry). IsLegal net (reverse es)) is legal in
    let split : IsLegal net (e ∷ reverse h) = subst (λ (es : List Entry). IsLegal net es) (reverse-append h (e ∷ [])) last in
    ap (λ (a : Reply × Orders). record { seat = e.seat; call = e.call; reply = a.0; orders = a.1 }) split.0
