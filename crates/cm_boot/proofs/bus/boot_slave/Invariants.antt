use Rattle.std.proofs.Common.{◌≡◌, length}
use Rattle.cm_netlist.specs.Network.{entry as entry_of}
use Rattle.cm_boot.specs.Talk.{Talks, asked}
use Rattle.cm_boot.proofs.bus.boot_slave.Given as goal

abbrev pub invariant-loop-turn : goal.invariant-loop-turn
invariant-loop-turn g l =
    (l.boot.entry ≡ entry_of l.network l.id)
    × (length (asked l.boot.entry l.boot.answers) ≡ l.turn)
    × (Talks (λ b q x c. g.B.Bus.step b l.id q x c) l.fn.bus (asked l.boot.entry l.boot.answers) l.bus)
