use Rattle.std.proofs.Common.{ap, map, refl}
use Rattle.cm_telling.specs.Waiting.{entry_of}
use Rattle.cm_telling.proofs.waiting.Waiting.new.Goals as goal

pub returns-clause-tells : goal.returns-clause-tells
returns-clause-tells g c = record {
  order = c.new.ensures;
  kept = record {
    each = ap (map entry_of) c.new-2.ensures.items;
    sums = ap (map (λ u. u.frames)) c.new-2.ensures.items;
    total = refl;
  };
}
