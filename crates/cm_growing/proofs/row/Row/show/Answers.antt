use Rattle.cm_growing.proofs.RowSteps.{shows_all}
use Rattle.cm_growing.proofs.row.Row.show.Goals as goal

pub put-requires-clause-keeps : goal.put-requires-clause-keeps
put-requires-clause-keeps g c =
    λ cells log row pre found. rw c.word-2.ensures.value (shows_all g.K.HistoryName.net c.args.seen.now.log c.args.count cells log
    c.requires.of.1 c.requires.count.0 c.requires.count.1 c.requires.count.2 c.requires.same row pre (rw (← c.word.ensures.value) found))
