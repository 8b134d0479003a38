-- The bits of a number.
use Rattle.std.specs.Prelude.{ℕ, Bool, ◌==◌, ◌^◌}
use Rattle.std.specs.Int.RustNames.{bit_and}

-- bit k of n is set, bit 0 being the lowest
abbrev pub has_bit : ℕ → ℕ → Bool
has_bit n k = bit_and n (2 ^ k) == 2 ^ k
