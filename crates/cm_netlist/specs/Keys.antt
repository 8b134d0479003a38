-- The keys of a network list in TOML whose values are integers.
use Rattle.std.specs.Prelude.{ℕ, Bool, true, false, ◌||◌, not, nat_eq, List, [], ◌∷◌, codes}
use Rattle.std.specs.List.{list_any}
use Rattle.std.specs.Cmp.Lexicographic.{pointwise}
use Rattle.toml.specs.Data.{Members}
use Rattle.cm_netlist.specs.Table.{keys_any}

-- a key, the least and the greatest integer that may stand there, and whether a table has to have it (own)
pub record IntegerKey : Type 0 where
  pub name : List ℕ
  pub least : ℕ
  pub greatest : ℕ
  pub needed : Bool

-- a key of these four
abbrev pub integer : List ℕ → ℕ → ℕ → Bool → IntegerKey
integer name least greatest needed = record { name = name; least = least; greatest = greatest; needed = needed }

-- the integers of the top table (own)
unfoldable pub top_integers : List IntegerKey
top_integers =
    integer (codes "own") 1 127 true
    ∷ integer (codes "startup") 0 4294967295 true
    ∷ integer (codes "boot_time") 0 4294967295 false
    ∷ []

-- the integers of a slave (own)
unfoldable pub slave_integers : List IntegerKey
slave_integers =
    integer (codes "id") 1 127 true
    ∷ integer (codes "assignment") 0 4294967295 true
    ∷ integer (codes "device_type") 0 4294967295 false
    ∷ integer (codes "vendor") 0 4294967295 false
    ∷ integer (codes "product") 0 4294967295 false
    ∷ integer (codes "revision") 0 4294967295 false
    ∷ integer (codes "serial") 0 4294967295 false
    ∷ integer (codes "heartbeat") 0 65535 false
    ∷ integer (codes "date") 0 4294967295 false
    ∷ integer (codes "time") 0 4294967295 false
    ∷ []

-- the key is that of a table's array, or of one of its integers (own)
abbrev pub is_listed : List IntegerKey → List ℕ → List ℕ → Bool
is_listed ks a name = pointwise nat_eq name a || list_any (λ k. pointwise nat_eq name k.name) ks

-- the table has another key than those (own)
abbrev pub has_other_key : List IntegerKey → List ℕ → Members → Bool
has_other_key ks a ms = keys_any (λ name. not (is_listed ks a name)) ms
