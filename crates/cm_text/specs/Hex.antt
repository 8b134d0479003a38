-- Exactly 2, 4 or 8 hexadecimal digits, the high one first.
use Rattle.std.specs.Prelude.{ℕ, ◌+◌, ◌-◌, ◌*◌, ◌/◌, ◌%◌, nat_lt, nat_le, ◌&&◌, ◌==◌, if◌then◌else◌}
use Rattle.std.specs.Prelude.{length, replicate, List, [], ◌∷◌, ◌++◌, Option, None}
use Rattle.cm_text.specs.Exact.{respelled}

-- the digit that is worth this much: 0 to 9 for 0 to 9, A to F for 10 to 15 (own)
abbrev pub glyph : ℕ → ℕ
glyph d = if nat_lt d 10 then 48 + d else 55 + d

-- a byte's two digits (own)
unfoldable pub hex_two : ℕ → List ℕ
hex_two n = glyph (n / 16) ∷ glyph (n % 16) ∷ []

-- the four digits of a number of 16 bits: its high byte's, then its low byte's (own)
unfoldable pub hex_four : ℕ → List ℕ
hex_four n = hex_two (n / 256) ++ hex_two (n % 256)

-- the eight digits of a number of 32 bits: those of its high half, then of its low half (own)
unfoldable pub hex_eight : ℕ → List ℕ
hex_eight n = hex_four (n / 65536) ++ hex_four (n % 65536)

-- what a digit is worth, and 0 for any other byte (own)
abbrev pub nibble : ℕ → ℕ
nibble c = if nat_le 48 c && nat_le c 57 then c - 48 else (if nat_le 65 c && nat_le c 70 then c - 55 else 0)

-- what two digits are worth (own)
unfoldable pub two : ℕ → ℕ → ℕ
two a b = nibble a * 16 + nibble b

-- what four digits are worth (own)
unfoldable pub four : ℕ → ℕ → ℕ → ℕ → ℕ
four a b c d = two a b * 256 + two c d

-- the byte whose two digits the field is (own)
unfoldable pub two_of : List ℕ → Option ℕ
two_of (a ∷ b ∷ []) = respelled hex_two (two a b) (a ∷ b ∷ [])
two_of _ = None

-- the number of 16 bits whose four digits the field is (own)
unfoldable pub four_of : List ℕ → Option ℕ
four_of (a ∷ b ∷ c ∷ d ∷ []) = respelled hex_four (four a b c d) (a ∷ b ∷ c ∷ d ∷ [])
four_of _ = None

-- the number of 32 bits whose eight digits the field is (own)
unfoldable pub eight_of : List ℕ → Option ℕ
eight_of (a ∷ b ∷ c ∷ d ∷ e ∷ f ∷ g ∷ h ∷ []) =
    respelled hex_eight (four a b c d * 65536 + four e f g h) (a ∷ b ∷ c ∷ d ∷ e ∷ f ∷ g ∷ h ∷ [])
eight_of _ = None

-- eight digits, of which these are the last, and the others 0 (own)
abbrev pub padded : List ℕ → List ℕ
padded w = replicate (8 - length w) 48 ++ w

-- the number whose digits, so many, the field is: that of eight, with 0 in front (own)
abbrev pub digits_of : ℕ → List ℕ → Option ℕ
digits_of width w = if length w == width then eight_of (padded w) else None
