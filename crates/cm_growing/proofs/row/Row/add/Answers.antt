use Rattle.std.proofs.Common.{refl, ◌+◌}
use Rattle.cm_growing.specs.Items.{number_of}
use Rattle.cm_growing.specs.declared.log_item.LogItem.TheVariants as item
use Rattle.cm_growing.proofs.RowSteps.{added_now, adds_moved}
use Rattle.cm_growing.proofs.row.Row.add.Goals as goal

pub put-requires-clause-keeps : goal.put-requires-clause-keeps
put-requires-clause-keeps g c =
    let byte = rw c.status.ensures.value at c.word.ensures.range in
    let old = rw c.status.ensures.value at c.word.ensures.value in
    let new = rw c.status-2.ensures.value at c.word-2.ensures.value in
    λ cells log row pre found. rw new (adds_moved g.K.HistoryName.net c.args.seen.now.log c.args.entry.now c.args.count (number_of c.args.from.now.node) c.args.from.now.state c.args.to.now cells log
    c.requires.of.1 c.requires.count.1 c.requires.count.0 c.requires.answered c.requires.ready (rw c.status-2.ensures.value at c.word-2.ensures.range) c.status.ensures.range byte row pre (rw (← old) found))

pub returns-clause-added : goal.returns-clause-added
returns-clause-added g c = λ t.
    let byte = rw c.status.ensures.value at c.word.ensures.range in
    let old = rw c.status.ensures.value at c.word.ensures.value in
    let told = c.put.ensures.added t in
    added_now told.0 c.put.new.seen.log (item.Moved c.args.entry.now (c.args.count + 1) c.args.to.now.node) c.args.entry.now c.args.count (number_of c.args.from.now.node) c.args.from.now.state
    c.requires.count.0 c.status.ensures.range byte (rw (← old) told.1) told.3 refl
