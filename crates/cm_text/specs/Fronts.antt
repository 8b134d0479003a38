-- What a writer has got of some bytes, where a write may fail (own).
use Rattle.std.specs.Prelude.{◌≡◌, ℕ, Bool, false, List, ◌++◌, Option, Some, None}
use Rattle.std.specs.Io.KnownBytes.{Appends}

-- the first of these bytes were written, all of them or fewer, and nothing else
abbrev pub AppendsFront : Option (List ℕ) → Option (List ℕ) → List ℕ → Type 0
AppendsFront old new bytes = (front : List ℕ) × (rest : List ℕ) × (front ++ rest ≡ bytes) × Appends old new front

-- just these bytes were written to an output that may be absent: where it is there, they were
abbrev pub AppendsIfThere : Option (Option (List ℕ)) → Option (Option (List ℕ)) → List ℕ → Type 0
AppendsIfThere (Some old) (Some new) bytes = Appends old new bytes
AppendsIfThere None None bytes = Unit {0}
AppendsIfThere _ _ bytes = ⊥

-- the first of these bytes were written to it, and nothing else
abbrev pub AppendsFrontIfThere : Option (Option (List ℕ)) → Option (Option (List ℕ)) → List ℕ → Type 0
AppendsFrontIfThere (Some old) (Some new) bytes = AppendsFront old new bytes
AppendsFrontIfThere None None bytes = Unit {0}
AppendsFrontIfThere _ _ bytes = ⊥

-- of these bytes the first were written, and all of them where no write has failed, if there is an output
pub record IsWritten (before now : Option (Option (List ℕ))) (failed : Bool) (bytes : List ℕ) : Type 0 where
  pub front : AppendsFrontIfThere before now bytes
  pub all : failed ≡ false → AppendsIfThere before now bytes
