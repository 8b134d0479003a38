use Rattle.std.proofs.Common.{◌≡◌, ◌∙◌, ◌++◌, Bool, arith, sym, subst}
use Rattle.cm_watched.specs.Guarding.{counts, heard_if}
use Rattle.cm_watch.specs.Watches.{Watches}
use Rattle.cm_watch.proofs.Steps.{same_counts}
use Rattle.cm_watch.proofs.watch.Watch.hear.Goals as goal

pub returns-then-counts : goal.returns-then-counts
returns-then-counts c = λ s past w.
    let net = c.args.network.now in
    let is : c.counts.result ≡ counts net past c.args.id c.args.byte = c.counts.ensures ∙ same_counts c.args.self.now net s past w c.args.id c.args.byte (omega arith) (omega arith) in
    subst (λ (b : Bool). Watches c.note.new.self net s (heard_if b c.args.now_ms c.args.id c.args.byte ++ past)) (sym c.if-counts.true ∙ is) (c.note.ensures s past w)

pub returns-else-counts : goal.returns-else-counts
returns-else-counts c = λ s past w.
    let net = c.args.network.now in
    let is : c.counts.result ≡ counts net past c.args.id c.args.byte = c.counts.ensures ∙ same_counts c.args.self.now net s past w c.args.id c.args.byte (omega arith) (omega arith) in
    subst (λ (b : Bool). Watches c.args.self.now net s (heard_if b c.args.now_ms c.args.id c.args.byte ++ past)) (sym c.if-counts.false ∙ is) w
