use Rattle.cm_telling.proofs.Entries.{placed_next}
use Rattle.cm_telling.proofs.waiting.Waiting.next.Goals as goal

pub returns-in-Some-clause-told : goal.returns-in-Some-clause-told
returns-in-Some-clause-told g c = λ arrived told holds.
    placed_next c.next.new.self arrived told c.in-Some.placed (c.in-Some.ensures.told arrived told holds)

pub returns-in-Some-clause-gives : goal.returns-in-Some-clause-gives
returns-in-Some-clause-gives g c = λ arrived given said counts t. record {
  order = placed_next c.next.new.self arrived given c.in-Some.placed (c.in-Some.ensures.told arrived given t.order);
  kept = record { each = t.kept.each; sums = t.kept.sums; total = t.kept.total };
}
