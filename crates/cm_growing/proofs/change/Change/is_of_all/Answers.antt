use Rattle.std.proofs.Common.{sym, ◌∙◌}
use Rattle.cm_growing.proofs.Showing.{none_of, others_stay}
use Rattle.cm_growing.proofs.change.Change.is_of_all.Goals as goal

pub returns-else-is_start : goal.returns-else-is_start
returns-else-is_start c = λ net before change no.
    let d = c.args.self.now in
    others_stay net before d.entry.now d.node d.value d.own d.own_value change (sym c.is_start.ensures ∙ c.if-is_start.false)
    (sym c.to_all.ensures ∙ none_of c.to_all.result (sym c.is_some.ensures ∙ no))
