-- What was read of an input.
use Rattle.std.specs.Prelude.{◌≡◌, ℕ, ◌≤◌, List, ◌++◌, length, Option, Bool, IsTrue}
use Rattle.std.specs.Io.KnownBytes.{Consumes, IsAtEnd}

-- these bytes were read, up to the end of the input, and there are at most this many (own)
pub record ReadsAll (most : ℕ) (old new : Option (List ℕ)) (bytes : List ℕ) : Type 0 where
  pub taken : Consumes old new bytes
  pub end : IsAtEnd new
  pub short : length bytes ≤ most

-- so many bytes were read and put behind others, at most this many, and none only at the end of the input (own)
pub record ReadsMore (most : ℕ) (old new : Option (List ℕ)) (before after : List ℕ) (count : ℕ) : Type 0 where
  pub bytes : List ℕ
  pub taken : Consumes old new bytes
  pub grown : after ≡ before ++ bytes
  pub counted : length bytes ≡ count
  pub end : count ≡ 0 → IsAtEnd new
  pub short : count ≤ most

-- bytes were read and put behind others, with which there are at most this many; up to the end of the input, where
-- that is the answer (own)
pub record ReadsUntil (most : ℕ) (old new : Option (List ℕ)) (before after : List ℕ) (ended : Bool) : Type 0 where
  pub bytes : List ℕ
  pub taken : Consumes old new bytes
  pub grown : after ≡ before ++ bytes
  pub end : IsTrue ended → IsAtEnd new
  pub short : length after ≤ most

-- so many bytes were read, up to the end of the input (own)
pub record SkipsAll (most : ℕ) (old new : Option (List ℕ)) (count : ℕ) : Type 0 where
  pub bytes : List ℕ
  pub read : ReadsAll most old new bytes
  pub counted : length bytes ≡ count
