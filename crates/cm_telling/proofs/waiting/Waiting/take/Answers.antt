use Rattle.std.proofs.lemmas.Result.{on_err_weaker, on_ok_weaker}
use Rattle.cm_telling.proofs.waiting.Waiting.take.Goals as goal

pub returns-clause-tells : goal.returns-clause-tells
returns-clause-tells g c = λ arrived given said counts t.
    on_ok_weaker c.take.result (λ order. record { order = order; kept = record { each = t.kept.each; sums = t.kept.sums; total = t.kept.total } }) (c.take.ensures.came arrived given t.order)

pub returns-clause-stays : goal.returns-clause-stays
returns-clause-stays g c = λ arrived given said counts t.
    on_err_weaker c.take.result (λ order. record { order = order; kept = record { each = t.kept.each; sums = t.kept.sums; total = t.kept.total } }) (c.take.ensures.refused arrived given t.order)
