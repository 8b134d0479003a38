-- What a network list says, without the writes themselves: what a boot and the manager go by.
use Rattle.std.specs.Prelude.{ℕ, Bool, false, List, Option}
use Rattle.std.specs.Option.{is_some, option_map_or}
use Rattle.std.specs.List.{range_with_len}
use Rattle.cm_nmt.specs.Bits.{has_bit}
use Rattle.cm_nmt.specs.declared.terms.Terms.{Terms}

-- the own node-ID, 1F80h, 1F89h, and what is listed of each node, without the writes themselves
pub record Listing : Type 0 where
  pub own : ℕ
  pub startup : ℕ
  pub boot_time : ℕ
  pub terms : ℕ → Option Terms

-- bit k of a slave's 1F81h, false where the node isn't listed
abbrev pub assigned : Listing → ℕ → ℕ → Bool
assigned net i k = option_map_or (λ (t : Terms). has_bit t.assignment.0 k) (net.terms i) false

-- a slave of the network list (CiA 302-2, 1F81h bit 0)
abbrev pub is_listed : Listing → ℕ → Bool
is_listed net i = is_some (net.terms i)

-- to be configured and started by its boot (CiA 302-2, 1F81h bit 2)
abbrev pub is_to_be_booted : Listing → ℕ → Bool
is_to_be_booted net i = assigned net i 2

-- mandatory: without it the network doesn't become ready (CiA 302-2, 1F81h bit 3)
abbrev pub is_mandatory : Listing → ℕ → Bool
is_mandatory net i = assigned net i 3

-- kept alive: no reset communication at a start of the network (CiA 302-2, 1F81h bit 4)
abbrev pub is_kept : Listing → ℕ → Bool
is_kept net i = assigned net i 4

-- the device is the NMT master (CiA 302-2, 1F80h bit 0)
abbrev pub is_master : Listing → Bool
is_master net = has_bit net.startup 0

-- slaves are started all at once, with node-ID 0 (CiA 302-2, 1F80h bit 1)
abbrev pub starts_all_at_once : Listing → Bool
starts_all_at_once net = has_bit net.startup 1

-- the application decides when the manager becomes operational (CiA 302-2, 1F80h bit 2)
abbrev pub leaves_operational_to_application : Listing → Bool
leaves_operational_to_application net = has_bit net.startup 2

-- the manager starts no slave (CiA 302-2, 1F80h bit 3)
abbrev pub starts_no_slave : Listing → Bool
starts_no_slave net = has_bit net.startup 3

-- on an error control event of a mandatory slave all nodes are reset (CiA 302-2, 1F80h bit 4)
abbrev pub resets_all_on_error : Listing → Bool
resets_all_on_error net = has_bit net.startup 4

-- on that event all nodes are stopped, in place of a reset (CiA 302-2, 1F80h bit 6)
abbrev pub stops_all_on_error : Listing → Bool
stops_all_on_error net = has_bit net.startup 6

-- the node-IDs 1 to 127, in rising order
unfoldable pub node_ids : List ℕ
node_ids = range_with_len 1 127
