-- Decimal digits with no leading zero.
use Rattle.std.specs.Prelude.{ℕ, nat_le, if◌then◌else◌, List, Option, None, decimal}
use Rattle.std.specs.Str.Parse.{digits_value}
use Rattle.cm_text.specs.Exact.{respelled}

-- the number, 0 to most, whose decimal digits the field is (own)
unfoldable pub dec_of : ℕ → List ℕ → Option ℕ
dec_of most w = if nat_le (digits_value 10 w) most then respelled decimal (digits_value 10 w) w else None
