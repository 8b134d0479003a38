-- Lines that are written in several parts.
use Rattle.std.proofs.Common.{ℕ, List, ◌++◌, append_assoc, subst}
use Rattle.std.specs.Prelude.{Option, Result, OnOk}
use Rattle.std.specs.Io.KnownBytes.{Appends}
use Rattle.cm_text.proofs.Writes.{then_last}

-- a text and the words behind it, and then a last write, which may fail
pub then_words : {T E : Type 0} (r : Result T E) (a b c : Option (List ℕ)) (xs ys cs : List ℕ) → Appends a b (xs ++ ys)
    → OnOk r (Appends b c cs) → OnOk r (Appends a c (xs ++ (ys ++ cs)))
then_words r a b c xs ys cs p q = subst (λ (bytes : List ℕ). OnOk r (Appends a c bytes)) (append_assoc xs ys cs) (then_last r a b c (xs ++ ys) cs p q)
