-- What slave assignment says of node guarding (CiA 302-2, 1F81h).
use Rattle.std.specs.Prelude.{ℕ, ◌/◌, ◌%◌}

-- the retry factor: bits 8 to 15
abbrev pub retry_factor : ℕ → ℕ
retry_factor a = a / 0x0100 % 0x0100

-- the guard time, in ms: bits 16 to 31
abbrev pub guard_time : ℕ → ℕ
guard_time a = a / 0x00010000
