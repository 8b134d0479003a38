-- What the exit status says of what was to be written.
use Rattle.std.proofs.Common.{◌≡◌, ℕ}
use Rattle.std.specs.Prelude.{Result, Ok, Err, OnOk, if◌then◌else◌, is_ok}

-- at exit status 0 it was written
pub done_written : {A E : Type 0} (r : Result A E) (P : Type 0) (status : ℕ) → OnOk r P → status ≡ (if is_ok r then 0 else 3) → status ≡ 0 → P
done_written (Ok x) P status written is e = written
done_written (Err x) P status written is e = absurd cc
