use Rattle.std.proofs.Common.{map}
use Rattle.cm_bus.specs.Sent.{had_by}
use Rattle.canboot_live.proofs.Begins.{contents_in, format_in}
use Rattle.canboot_live.proofs.live.live_listed.Given as goal

abbrev pub ghosts-live_on : goal.ghosts-live_on
ghosts-live_on g a = record { text = g.X.Received.Read.remaining a.ends.received; format = a.options.bus.format; typed = g.X.Typed.Read.remaining a.ends.typed; message_format = format_in a.trace.now.messages a.options.bus.format; before = contents_in g.X.Sent.Write.contents a.trace.now.messages; had = had_by (g.X.Sent.Write.contents a.ends.error_control) (map g.X.Sent.Write.contents a.ends.written.items) }
