use Rattle.std.proofs.Common.{None, map}
use Rattle.cm_bus.specs.Sent.{had_by}
use Rattle.canboot_scan.proofs.finding.find_devices.Given as goal

abbrev pub ghosts-find_on : goal.ghosts-find_on
ghosts-find_on g a = record { text = g.I.Read.remaining a.scan.ends.received; format = a.scan.options.format; typed = g.I.Read.remaining a.scan.ends.received; message_format = a.scan.options.format; before = g.I.Read.remaining a.scan.ends.received; had = had_by None (map g.W.Write.contents a.scan.ends.written.items) }
