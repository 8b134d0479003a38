use Rattle.std.proofs.Common.{◌≡◌, ◌∙◌, ◌+◌, [], ◌∷◌, length, length-append, refl}
use Rattle.cm_telling.specs.Waiting.{placed_at, untold_of}
use Rattle.cm_telling.proofs.Waits.{kept_more}
use Rattle.cm_telling.proofs.waiting.Waiting.wait.Goals as goal

pub returns-clause-tells : goal.returns-clause-tells
returns-clause-tells g c = λ arrived given said counts t.
    let place : c.count.result ≡ length given + 1 = c.count.ensures ∙ t.order.count ∙ length-append given (placed_at (length given) c.args.value ∷ []) in
    record {
      order = t.order;
      kept = kept_more c.args.self.now (record { order = c.args.self.now.order; untold = c.push_back.new.self; frames = c.saturating_add-sum.result }) said given counts (untold_of c.args.value c.args.told c.args.is_halted c.count.result c.saturating_add-sum.result) c.args.frames t.kept
          c.in_ok-push_back.ensures.items refl place c.saturating_add-sum.ensures;
    }
