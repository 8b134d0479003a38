-- What two writes append, one after the other.
use Rattle.std.proofs.Common.{ℕ, List, ◌++◌}
use Rattle.std.specs.Prelude.{Option, Result, Ok, Err, OnOk}
use Rattle.std.specs.Io.KnownBytes.{Appends}
use Rattle.std.proofs.KnownBytes.{Appends-trans}

-- a last write, which may fail, after what was appended before it
pub then_last : {T E : Type 0} (r : Result T E) (a b c : Option (List ℕ)) (bs cs : List ℕ) → Appends a b bs → OnOk r (Appends b c cs) → OnOk r (Appends a c (bs ++ cs))
then_last (Ok x) a b c bs cs p q = Appends-trans a b c bs cs p q
then_last (Err e) a b c bs cs p q = tt
