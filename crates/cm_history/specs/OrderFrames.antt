-- The frames that orders send (own, but for the reset's rule: CiA 302-2, 1F81h bit 4).
use Rattle.std.specs.Prelude.{ℕ, Bool, ◌&&◌, not, if◌then◌else◌, List, [], ◌∷◌, map, filter, flat_map}
use Rattle.cm_nmt.specs.declared.command.Command.TheVariants as command
use Rattle.cm_nmt.specs.declared.frame.Frame.{Frame}
use Rattle.cm_nmt.specs.declared.frame.Target.TheVariants as target
use Rattle.cm_nmt.specs.Listing.{node_ids, Listing, is_listed, is_kept}
use Rattle.cm_history.specs.History.{is_empty}
use Rattle.cm_history.specs.declared.call.Entry.{Entry}
use Rattle.cm_history.specs.declared.call.Orders.{Orders}
use Rattle.cm_history.specs.declared.call.Orders.TheVariants as orders

-- a listed slave that isn't kept alive
abbrev pub is_unkept : Listing → ℕ → Bool
is_unkept net i = is_listed net i && not (is_kept net i)

-- reset communication to node i
abbrev pub reset_of : ℕ → Frame
reset_of i = record { command = command.ResetComm; target = target.Node i }

-- reset communication to all nodes
abbrev pub reset_all : Frame
reset_all = record { command = command.ResetComm; target = target.All }

-- one reset to all where no slave is kept alive, else one to each that isn't, in rising node-ID
abbrev pub resets_of : Listing → List Frame
resets_of net = if is_empty (filter (is_kept net) node_ids) then reset_all ∷ [] else map reset_of (filter (is_unkept net) node_ids)

-- the frames of one entry's orders
abbrev pub frames_of : Listing → Orders → List Frame
frames_of net orders.None = []
frames_of net (orders.One f) = f ∷ []
frames_of net orders.ResetUnkept = resets_of net

-- the frames of a history that is given with its oldest entry first
abbrev pub frames_in : Listing → List Entry → List Frame
frames_in net entries = flat_map (λ e. frames_of net e.orders) entries
