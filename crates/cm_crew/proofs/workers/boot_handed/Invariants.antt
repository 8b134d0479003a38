use Rattle.cm_register.specs.Reads.{HasMadeCalls}
use Rattle.cm_crew.proofs.workers.boot_handed.Given as goal

abbrev pub invariant-loop : goal.invariant-loop
invariant-loop g l = record {
  can : (goal.iterator-loop g).can_next l.iterator';
  ends : (goal.iterator-loop g).is_finite l.iterator';
  calls : HasMadeCalls l.initial.booth l.booth;
}
