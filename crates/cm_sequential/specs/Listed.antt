-- The mandatory slaves of a list of terms.
use Rattle.std.specs.Prelude.{ℕ, Bool, false, List, Option, None}
use Rattle.std.specs.List.{slice_index_or}
use Rattle.std.specs.Option.{option_map_or}
use Rattle.cm_nmt.specs.Bits.{has_bit}
use Rattle.cm_nmt.specs.declared.terms.Terms.{Terms}

-- node i is a mandatory slave (CiA 302-2, 1F81h bit 3), where the terms of node i stand at place i
abbrev pub listed_mandatory : List (Option Terms) → ℕ → Bool
listed_mandatory terms i = option_map_or (λ (t : Terms). has_bit t.assignment.0 3) (slice_index_or terms i None) false
