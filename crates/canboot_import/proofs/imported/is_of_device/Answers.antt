use Rattle.std.proofs.Common.{inl, inr}
use Rattle.std.proofs.lemmas.Bool.{eqb-true}
use Rattle.canboot_import.proofs.imported.is_of_device.Goals as goal

pub returns-then-index-eq4096 : goal.returns-then-index-eq4096
returns-then-index-eq4096 c = λ file yes is.
    let item = c.args.item.now in
    record {
      section = item.section.now;
      key = item.key.now;
      text = item.value.now;
      object = (c.in-Some.index, c.in-Some.field-0-1);
      has = is;
      object_is = c.in-Some.ensures;
      which = inl c.if-index-eq4096.true;
    }

pub returns-else-index-eq4096 : goal.returns-else-index-eq4096
returns-else-index-eq4096 c = λ file yes is.
    let item = c.args.item.now in
    record {
      section = item.section.now;
      key = item.key.now;
      text = item.value.now;
      object = (c.in-Some.index, c.in-Some.field-0-1);
      has = is;
      object_is = c.in-Some.ensures;
      which = inr (eqb-true c.in-Some.index 4120 yes);
    }
