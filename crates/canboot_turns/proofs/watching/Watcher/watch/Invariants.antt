use Rattle.canboot_turns.specs.Causes.{GoesOn, stand_of}
use Rattle.canboot_turns.proofs.watching.Watcher.watch.Given as goal

-- it has gone on by what happened
abbrev pub invariant-loop : goal.invariant-loop
invariant-loop g l = record {
  can : (goal.iterator-loop g).can_next l.iterator';
  ends : (goal.iterator-loop g).is_finite l.iterator';
  goes_on : GoesOn g.B.BusName.format g.B.BusName.text g.B.BusName.typed (stand_of l.initial.self) (stand_of l.self);
}
