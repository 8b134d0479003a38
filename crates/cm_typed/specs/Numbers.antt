-- Numbers that an operator types (own, but where a standard is named).
use Rattle.std.specs.Prelude.{ℕ, ◌+◌, ◌-◌, ◌*◌, ◌==◌, nat_le, ◌&&◌, if◌then◌else◌}
use Rattle.std.specs.Prelude.{List, [], ◌∷◌, Option, Some, None}
use Rattle.cm_text.specs.FieldReading.{◌>>=◌}
use Rattle.cm_text.specs.Picked.{within}

-- what a decimal digit is worth
abbrev pub digit_of : ℕ → Option ℕ
digit_of b = if nat_le 48 b && nat_le b 57 then Some (b - 48) else None

-- what a hexadecimal digit is worth: 0 to 9, A to F, a to f
abbrev pub hex_digit_of : ℕ → Option ℕ
hex_digit_of b = if nat_le 48 b && nat_le b 57 then Some (b - 48)
    else (if nat_le 65 b && nat_le b 70 then Some (b - 55)
    else (if nat_le 97 b && nat_le b 102 then Some (b - 87) else None))

-- the number of one to three decimal digits, 0 to 255, with no 0 in front
abbrev pub decimal_of : List ℕ → Option ℕ
decimal_of (a ∷ []) = digit_of a
decimal_of (a ∷ b ∷ []) = digit_of a >>= (λ m. digit_of b >>= (λ n. within 10 99 (m * 10 + n)))
decimal_of (a ∷ b ∷ c ∷ []) = digit_of a >>= (λ l. digit_of b >>= (λ m. digit_of c >>= (λ n. within 100 255 ((l * 10 + m) * 10 + n))))
decimal_of _ = None

-- the number of one or two hexadecimal digits
abbrev pub hexadecimal_of : List ℕ → Option ℕ
hexadecimal_of (a ∷ []) = hex_digit_of a
hexadecimal_of (a ∷ b ∷ []) = hex_digit_of a >>= (λ m. hex_digit_of b >>= (λ n. Some (m * 16 + n)))
hexadecimal_of _ = None

-- the number that a word spells: hexadecimal digits behind "0x", else decimal ones
abbrev pub number_of : List ℕ → Option ℕ
number_of (a ∷ b ∷ digits) = if a == 48 && b == 120 then hexadecimal_of digits else decimal_of (a ∷ b ∷ digits)
number_of w = decimal_of w

-- the node-ID that a word spells (CiA 301)
abbrev pub typed_node : List ℕ → Option ℕ
typed_node w = number_of w >>= (λ n. within 1 127 n)
