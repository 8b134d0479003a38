-- What the orders of the report of a boot start (CiA 302-2, boot NMT slave: the slave alone, or all nodes).
use Rattle.std.specs.Prelude.{ℕ, Bool, true, false, if◌then◌else◌}
use Rattle.cm_history.specs.Orders.{is_start_all, is_start_of}
use Rattle.cm_history.specs.declared.call.Orders.{Orders}
use Rattle.cm_history.specs.declared.call.Orders.TheVariants as orders
use Rattle.cm_telling.specs.declared.starts.Starts.{Starts}
use Rattle.cm_telling.specs.declared.starts.Starts.TheVariants as starts

-- how the orders of a report start its slave: alone, with all nodes, or not (CiA 302-2, boot NMT slave)
abbrev pub starts_of : Orders → ℕ → Starts
starts_of orders i =
    if is_start_of orders i then starts.Alone else (if is_start_all orders then starts.WithAll else starts.None)

-- the same, once all frames of the orders were handed to the wire (own)
abbrev pub starts_handed : Bool → Orders → ℕ → Starts
starts_handed handed orders i = if handed then starts_of orders i else starts.None

-- the orders are one message
abbrev pub is_one : Orders → Bool
is_one (orders.One f) = true
is_one _ = false
