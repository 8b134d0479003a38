-- What orders do: commands to one node and to all.
use Rattle.std.specs.Prelude.{ℕ, Bool, true, false, ◌==◌, ◌&&◌, if◌then◌else◌, Option, Some, None}
use Rattle.cm_nmt.specs.declared.command.Command.{Command}
use Rattle.cm_nmt.specs.declared.command.Command.TheVariants as command
use Rattle.cm_nmt.specs.declared.frame.Target.{Target}
use Rattle.cm_nmt.specs.declared.frame.Target.TheVariants as target
use Rattle.cm_history.specs.declared.call.Orders.{Orders}
use Rattle.cm_history.specs.declared.call.Orders.TheVariants as orders

-- reset node or reset communication (CiA 301, NMT node control)
abbrev pub is_reset : Command → Bool
is_reset command.ResetNode = true
is_reset command.ResetComm = true
is_reset _ = false

abbrev pub is_start : Command → Bool
is_start command.Start = true
is_start _ = false

-- reset node (CiA 301, NMT node control)
abbrev pub is_reset_node : Command → Bool
is_reset_node command.ResetNode = true
is_reset_node _ = false

-- stop (CiA 301, NMT node control)
abbrev pub is_stop : Command → Bool
is_stop command.Stop = true
is_stop _ = false

abbrev pub is_all : Target → Bool
is_all target.All = true
is_all (target.Node i) = false

abbrev pub is_node : Target → ℕ → Bool
is_node target.All i = false
is_node (target.Node j) i = j == i

-- the command to all nodes in the orders
abbrev pub to_all : Orders → Option Command
to_all orders.None = None
to_all (orders.One f) = if is_all f.target then Some f.command else None
to_all orders.ResetUnkept = None

-- the orders are a reset node of all nodes
abbrev pub is_reset_all : Orders → Bool
is_reset_all orders.None = false
is_reset_all (orders.One f) = is_all f.target && is_reset_node f.command
is_reset_all orders.ResetUnkept = false

-- the orders are a stop of all nodes
abbrev pub is_stop_all : Orders → Bool
is_stop_all orders.None = false
is_stop_all (orders.One f) = is_all f.target && is_stop f.command
is_stop_all orders.ResetUnkept = false

-- the orders are a start of all nodes
abbrev pub is_start_all : Orders → Bool
is_start_all orders.None = false
is_start_all (orders.One f) = is_all f.target && is_start f.command
is_start_all orders.ResetUnkept = false

-- the orders are a start of node i alone
abbrev pub is_start_of : Orders → ℕ → Bool
is_start_of orders.None i = false
is_start_of (orders.One f) i = is_node f.target i && is_start f.command
is_start_of orders.ResetUnkept i = false

-- a command to all nodes
abbrev pub to_every : Command → Orders
to_every c = orders.One (record { command = c; target = target.All })

-- a command to one node
abbrev pub to_node : Command → ℕ → Orders
to_node c i = orders.One (record { command = c; target = target.Node i })
