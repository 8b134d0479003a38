use Rattle.std.proofs.Common.{arith}
use Rattle.cm_growing.proofs.RowSteps.{stored_now, stores}
use Rattle.cm_growing.proofs.row.Row.store.Goals as goal

pub put-requires-clause-keeps : goal.put-requires-clause-keeps
put-requires-clause-keeps g c =
    let new = c.args.new in
    λ cells log row pre found. rw (c.from.ensures, c.get.ensures.value, c.word.ensures.value) (stores g.K.HistoryName.net c.args.seen.now.log c.args.id c.args.old new.since new.state new.before cells log
    c.requires.of.1 (omega (arith, c.get.ensures.value, c.get.ensures.range)) (omega (arith, c.get.ensures.value, c.get.ensures.range)) c.requires.count.1 c.requires.count.0 c.requires.older c.word.ensures.range.0 c.word.ensures.range.1 c.requires.state c.requires.before
    row pre (rw (← c.get.ensures.value, ← c.from.ensures) found))

pub returns-clause-stored : goal.returns-clause-stored
returns-clause-stored g c = λ t.
    let told = c.put.ensures.added t in
    stored_now told.0 c.put.new.seen.log c.args.id c.args.new.since told.3
