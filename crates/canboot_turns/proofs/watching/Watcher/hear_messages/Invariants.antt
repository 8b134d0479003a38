use Rattle.canboot_turns.specs.Causes.{GoesOn, stand_of}
use Rattle.canboot_turns.proofs.watching.Watcher.hear_messages.Given as goal

abbrev pub invariant-loop : goal.invariant-loop
invariant-loop g l = GoesOn g.B.BusName.format g.B.BusName.text g.B.BusName.typed (stand_of l.initial.self) (stand_of l.self)
