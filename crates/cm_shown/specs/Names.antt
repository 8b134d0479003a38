-- Names of nodes, as a TOML text gives them (own).
use Rattle.std.specs.Prelude.{ℕ, Bool, false, not, ◌&&◌, ◌||◌, ◌==◌, nat_le, if◌then◌else◌, List, length, decimal}
use Rattle.std.specs.Prelude.{Option, Some, None, is_none, option_and_then}
use Rattle.std.specs.List.{list_all}
use Rattle.toml.specs.Data.{Members, no_members, member, as_str, get_member}
use Rattle.toml.specs.View.{table_view}
use Rattle.cm_text.specs.Decimal.{dec_of}
use Rattle.cm_shown.specs.declared.names.Names.{Names}
use Rattle.cm_shown.specs.declared.names.NamesFault.{NamesFault}
use Rattle.cm_shown.specs.declared.names.NamesFault.TheVariants.{NotToml, BadNode, BadName}
use denote.Ref.{Bor}

-- the node-ID, 1 to 127, that the word is in decimal
abbrev pub node_of : List ℕ → Option ℕ
node_of w = option_and_then (λ n. if n == 0 then None else Some n) (dec_of 127 w)

-- the byte may stand in a name: it is no control character
abbrev pub is_shown : ℕ → Bool
is_shown b = nat_le 32 b && not (b == 127)

-- the text, if there is one, is a name: 1 to 64 bytes, of which none is below 20h and none is 7Fh
abbrev pub is_name : Option (List ℕ) → Bool
is_name None = false
is_name (Some bs) = nat_le 1 (length bs) && (nat_le (length bs) 64 && list_all is_shown bs)

-- a key of the table isn't a node-ID
abbrev pub has_bad_node : Members → Bool
has_bad_node no_members = false
has_bad_node (member k d ms) = is_none (node_of k) || has_bad_node ms

-- a value of the table isn't a name
abbrev pub has_bad_name : Members → Bool
has_bad_name no_members = false
has_bad_name (member k d ms) = not (is_name (as_str d)) || has_bad_name ms

-- the fault of a table: that of a key is told before that of a value
abbrev pub table_fault : Members → Option NamesFault
table_fault ms = if has_bad_node ms then Some BadNode else if has_bad_name ms then Some BadName else None

-- the fault of a text, by what TOML makes of it: that it isn't TOML, or the fault of its table
abbrev pub text_fault : Option Members → Option NamesFault
text_fault None = Some NotToml
text_fault (Some ms) = table_fault ms

-- the name that a table has for a node: the string at the key that is its node-ID in decimal
abbrev pub name_in : Members → ℕ → Option (List ℕ)
name_in ms id = option_and_then as_str (get_member (decimal id) ms)

-- the name of a node
abbrev pub name_of : Names → ℕ → Option (List ℕ)
name_of names id = name_in (table_view names.table) id

-- the name of a node, if there are names
abbrev pub name_among : Option (Bor Names) → ℕ → Option (List ℕ)
name_among None id = None
name_among (Some names) id = name_of names.now id
