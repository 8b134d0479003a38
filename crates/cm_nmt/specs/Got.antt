-- What a slave gave to a read or a write.
use Rattle.std.specs.Prelude.{ℕ, Bool, true, false, ◌==◌}
use Rattle.cm_nmt.specs.declared.got.Got.{Got}
use Rattle.cm_nmt.specs.declared.got.Got.TheVariants.{NotAsked, Silent, Abort, Value}

-- the question was asked
abbrev pub is_answered : Got → Bool
is_answered NotAsked = false
is_answered Silent = true
is_answered (Abort code) = true
is_answered (Value v) = true

-- a value was read
abbrev pub has_value : Got → Bool
has_value (Value v) = true
has_value _ = false

-- this value was read
abbrev pub is_value : Got → ℕ → Bool
is_value (Value v) expected = v == expected
is_value _ expected = false

-- the question was asked and failed, by silence or an abort: an abort counts as the failure of its
-- question (own)
abbrev pub is_refusal : Got → Bool
is_refusal Silent = true
is_refusal (Abort code) = true
is_refusal _ = false
