use Rattle.std.proofs.Common.{◌≡◌, get_or, take}
use Rattle.std.specs.Str.Parse.{AllDigits, digits_value}
use Rattle.cm_text.proofs.near.near_decimal.Given as goal

abbrev pub invariant-loop-at : goal.invariant-loop-at
invariant-loop-at l =
    (l.n ≡ digits_value 10 (take l.at l.bytes)) × AllDigits 10 (take l.at l.bytes) × (get_or l.bytes 0 0 ≡ 48 → (l.n ≡ 0) × (l.at ≡ 1))
