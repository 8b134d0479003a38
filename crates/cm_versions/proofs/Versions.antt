-- What versions of a history come to.
use Rattle.std.proofs.Common.{◌≡◌, ℕ, ◌+◌, List, [], ◌∷◌, ◌++◌, sym, ◌∙◌, append_assoc}
use Rattle.std.specs.Prelude.{reverse, fold}
use Rattle.std.proofs.lemmas.List.{append-nil}
use Rattle.cm_nmt.specs.Listing.{Listing}
use Rattle.cm_history.specs.Legal.{IsLegal, IsFirstFault}
use Rattle.cm_history.specs.declared.call.Entry.{Entry}
use Rattle.cm_history.proofs.LegalHistories.{legal_take}
use Rattle.cm_versions.specs.Versions.{NextView, entries_of}

-- a legal history has no fault
pub no_fault : (net : Listing) (es : List Entry) (place : ℕ) → IsLegal net (reverse es) → IsFirstFault net es place → ⊥
no_fault net es place legal f = f.wrong (legal_take net es (place + 1) legal)

-- the operations in order add their entries in order
pub fold_entries : (h : List Entry) (ns : List NextView) → fold (λ (es : List Entry) (n : NextView). es ++ n.entry ∷ []) h ns ≡ h ++ entries_of ns
fold_entries h [] = sym (append-nil h)
fold_entries h (n ∷ ns) = fold_entries (h ++ n.entry ∷ []) ns ∙ append_assoc h (n.entry ∷ []) (entries_of ns)

-- what was told is what is shown once all operations are
pub shown_all : (told shown after : List Entry) (ns : List NextView) → told ≡ shown ++ entries_of ns
    → after ≡ fold (λ (es : List Entry) (n : NextView). es ++ n.entry ∷ []) shown ns → after ≡ told
shown_all told shown after ns is now = now ∙ (fold_entries shown ns ∙ sym is)
