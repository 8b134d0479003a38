use Rattle.cm_growing.specs.Items.{number_of}
use Rattle.cm_growing.proofs.RowSteps.{adds_entry, pending_now}
use Rattle.cm_growing.proofs.row.Row.announce.Goals as goal

pub put-requires-clause-keeps : goal.put-requires-clause-keeps
put-requires-clause-keeps g c =
    let byte = rw c.status.ensures.value at c.word.ensures.range in
    let old = rw c.status.ensures.value at c.word.ensures.value in
    λ cells log row pre found. rw c.word-2.ensures.value (adds_entry g.K.HistoryName.net c.args.seen.now.log c.args.entry.now c.args.count (number_of c.args.from.now.node) c.args.from.now.state cells log
    c.requires.of.1 c.requires.count.1 c.requires.count.0 c.requires.answered c.requires.same c.status.ensures.range byte row pre (rw (← old) found))

pub returns-clause-next : goal.returns-clause-next
returns-clause-next g c = λ t.
    let byte = rw c.status.ensures.value at c.word.ensures.range in
    let old = rw c.status.ensures.value at c.word.ensures.value in
    let told = c.put.ensures.added t in
    pending_now g.K.HistoryName.net c.args.seen.now.log told.0 c.put.new.seen.log c.args.entry.now c.args.count (number_of c.args.from.now.node) c.args.from.now.state
    c.requires.count.0 c.requires.count.1 c.status.ensures.range byte c.requires.same told.2 (rw (← old) told.1) told.3
