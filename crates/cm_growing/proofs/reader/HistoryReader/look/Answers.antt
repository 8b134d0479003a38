use Rattle.std.proofs.Common.{List, take, ap, sym, subst, arith}
use base.Growing.{prefix_refl}
use mathlib.Core.List.{IsPrefix}
use Rattle.cm_history.specs.declared.call.Entry.{Entry}
use Rattle.cm_growing.specs.Items.{entries_in}
use Rattle.cm_growing.specs.declared.log_item.LogItem.{LogItem}
use Rattle.cm_growing.proofs.Items.{take_begins}
use Rattle.cm_growing.proofs.reader.HistoryReader.look.Goals as goal

pub returns-clause-later : goal.returns-clause-later
returns-clause-later g c =
    let xs = c.known.inside.seen.log in
    let ys = c.see.new.seen.log in
    let grows : IsPrefix xs ys = subst (λ (log : List LogItem). IsPrefix log ys) (ap (λ s. s.log) c.again-seen.ensures) c.see.ensures.later in
    subst (λ (w : List Entry). IsPrefix w c.of-past.result) c.known.view_is (subst (IsPrefix (take c.known.inside.count (entries_in xs))) (sym c.of-past.ensures)
    (take_begins xs ys ys c.known.inside.count c.in_ok-count.count grows (prefix_refl ys) c.known.invariant.0 c.in_ok-count.ensures.looked.there (omega (arith, c.if-count-known.false))))
