-- Which slaves stand stopped: the last NMT command that reached each was stop, and a stopped node answers no SDO (CiA 301).
use Rattle.std.specs.Prelude.{ℕ, Bool, false, ◌==◌, ◌&&◌, ◌||◌, if◌then◌else◌, [], ◌∷◌, Option, Some, None}
use Rattle.std.specs.Prelude.{option_map, unwrap_or}
use Rattle.cm_history.specs.History.{is_boot_again}
use Rattle.cm_history.specs.Orders.{is_all, is_node, is_stop}
use Rattle.cm_history.specs.declared.call.Call.{Call}
use Rattle.cm_history.specs.declared.call.Call.TheVariants as call
use Rattle.cm_history.specs.declared.call.Entry.{Entry}
use Rattle.cm_history.specs.declared.call.Orders.{Orders}
use Rattle.cm_history.specs.declared.call.Orders.TheVariants as orders
use Rattle.cm_history.specs.declared.call.Reply.{Reply}
use Rattle.cm_netlist.specs.Network.{Network, is_kept}
use Rattle.cm_nmt.specs.declared.command.Command.{Command}
use Rattle.cm_nmt.specs.declared.command.Command.TheVariants as command
use Rattle.cm_watched.specs.Pasts.{Past}
use Rattle.cm_watched.specs.declared.happening.Happening.TheVariants as happening
use Rattle.cm_watched.specs.declared.happening.Moment.{Moment}
use Rattle.cm_watched.specs.declared.happening.Moment.TheVariants as moment
use Rattle.cm_watched.specs.declared.happening.Step.TheVariants as step

-- the command by which the orders reach i: one to it or to all; at a start of the network each slave is reset that isn't kept
-- alive (CiA 302-2, 1F81h bit 4)
abbrev pub command_to : Network → Orders → ℕ → Option Command
command_to net orders.None i = None
command_to net (orders.One f) i = if is_all f.target || is_node f.target i then Some f.command else None
command_to net orders.ResetUnkept i = if is_kept net i then None else Some command.ResetComm

-- the call is a boot-up message of i, which a node sends as it enters pre-operational by itself (CiA 301)
abbrev pub is_boot_up_of : Call → Reply → ℕ → Bool
is_boot_up_of (call.Signal j b) r i = is_boot_again r && j == i
is_boot_up_of _ r i = false

-- whether i stands stopped, where an entry decides that: not behind its boot-up message, else by the command that reaches it
abbrev pub stands_by_entry : Network → Entry → ℕ → Option Bool
stands_by_entry net e i = if is_boot_up_of e.call e.reply i then Some false else option_map is_stop (command_to net e.orders i)

-- the same of a moment: behind the step that wakes it i stands stopped no longer
abbrev pub stands_by : Network → Moment → ℕ → Option Bool
stands_by net (moment.Happened (happening.Called e)) i = stands_by_entry net e i
stands_by net (moment.Gave (step.Wake j)) i = if j == i then Some false else None
stands_by net _ i = None

abbrev pub stands_stopped : Network → Past → ℕ → Bool
stands_stopped net [] i = false
stands_stopped net (x ∷ past) i = unwrap_or (stands_by net x.1 i) (stands_stopped net past i)
