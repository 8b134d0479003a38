-- Numbers that people type, pairs of words, and lists of node-IDs (own).
use Rattle.std.specs.Prelude.{◌+◌, ◌*◌, ◌^◌, ◌==◌, ◌&&◌, ℕ, Bool, false, if◌then◌else◌, nat_le, nat_lt, List, [], ◌∷◌, Option, Some, None, is_some, length}
use Rattle.std.specs.Char.{digit_value}
use Rattle.std.specs.List.{list_all, list_any}
use Rattle.cm_text.specs.FieldReading.{◌>>=◌, is_empty}
use Rattle.cm_text.specs.Words.{Words, split}
use Rattle.cm_text.specs.Picked.{within}
use Rattle.cm_typed.specs.declared.node_lists.NodeRange.{NodeRange}

-- ---- numbers

-- the number, if it has 32 bits
abbrev pub of_32_bits : ℕ → Option ℕ
of_32_bits n = if nat_lt n (2 ^ 32) then Some n else None

-- the number with one digit more behind it, in this base
abbrev pub digit_more : ℕ → ℕ → ℕ → Option ℕ
digit_more base n c = if nat_lt (digit_value c) base then of_32_bits (n * base + digit_value c) else None

-- the number with these digits behind it
unfoldable pub number_after : ℕ → ℕ → List ℕ → Option ℕ
number_after base n [] = Some n
number_after base n (c ∷ cs) = digit_more base n c >>= (λ m. number_after base m cs)

-- the number of 32 bits that one digit or more are in this base
abbrev pub number_in : ℕ → List ℕ → Option ℕ
number_in base [] = None
number_in base (c ∷ cs) = number_after base 0 (c ∷ cs)

-- the node-ID in decimal (CiA 301)
abbrev pub node_in : List ℕ → Option ℕ
node_in w = number_in 10 w >>= (λ n. within 1 127 n)

-- the value, in hexadecimal behind "0x" and else in decimal
abbrev pub value_in : List ℕ → Option ℕ
value_in (a ∷ b ∷ digits) = if a == 48 && b == 120 then number_in 16 digits else number_in 10 (a ∷ b ∷ digits)
value_in w = number_in 10 w

-- the index of an object, in four hexadecimal digits
abbrev pub index_in : List ℕ → Option ℕ
index_in w = if length w == 4 then (number_in 16 w >>= (λ n. within 0 65535 n)) else None

-- ---- lists of node-IDs

-- the nodes from the first one to the last, if they are in this order
abbrev pub ordered : ℕ → ℕ → Option NodeRange
ordered first last = if nat_le first last then Some (record { first = first; last = last }) else None

-- the nodes from the first one to that behind the dash; the first one alone where there is no dash
abbrev pub range_from : ℕ → Words → Option NodeRange
range_from first [] = Some (record { first = first; last = first })
range_from first (last ∷ rest) = node_in last >>= (λ n. if is_empty rest then ordered first n else None)

-- the nodes of the parts between dashes, one or two
abbrev pub range_of : Words → Option NodeRange
range_of [] = None
range_of (first ∷ rest) = node_in first >>= (λ n. range_from n rest)

-- the nodes of one part of a list: 3, or 5-9
abbrev pub range_in : List ℕ → Option NodeRange
range_in part = range_of (split 45 part)

-- the node is in the range
abbrev pub covers : NodeRange → ℕ → Bool
covers r i = nat_le r.first i && nat_le i r.last

-- the node is in the range, if there is one
abbrev pub is_in : Option NodeRange → ℕ → Bool
is_in None i = false
is_in (Some r) i = covers r i

-- the text is a list: nodes, or ranges of them, with a comma between two
abbrev pub is_node_list : List ℕ → Bool
is_node_list text = list_all (λ part. is_some (range_in part)) (split 44 text)

-- the list has the node
abbrev pub lists : List ℕ → ℕ → Bool
lists text i = list_any (λ part. is_in (range_in part) i) (split 44 text)

-- ---- pairs

-- the two parts of a text between which the separator stands, once
abbrev pub pair_of : Words → Option (List ℕ × List ℕ)
pair_of (first ∷ second ∷ rest) = if is_empty rest then Some (first, second) else None
pair_of _ = None

abbrev pub pair_in : ℕ → List ℕ → Option (List ℕ × List ℕ)
pair_in separator text = pair_of (split separator text)
