use Rattle.std.proofs.Common.{◌≡◌, ap, sym, ◌∙◌, arith}
use Rattle.logbook.specs.Pages.{Named}
use Rattle.cm_growing.specs.Row.{word_of}
use Rattle.cm_growing.proofs.RowMoves.{looks}
use Rattle.cm_growing.proofs.row.Row.look.Goals as goal

pub load-requires : goal.load-requires
load-requires g c =
    let are = c.args.self.now.words_are in
    let is : c.index.result.now ≡ word_of g.K.HistoryName.log c.args.key = c.index.ensures ∙ are.1 c.args.key c.index.result.now (omega (arith, are.0, c.requires.0)) in
    let offer = c.plain-offer.ensures in (
      ap (λ (w : Named). w.tracked) is,
      c.requires.1 ∙ sym (ap (λ (w : Named). w.book) is),
      offer.0,
      rw (ap (λ (w : Named). w.key) is, offer.3) (looks c.args.seen.now.log c.args.key c.plain-offer.result.ask c.requires.0),
    )

pub returns-clause-found : goal.returns-clause-found
returns-clause-found g c =
    let are = c.args.self.now.words_are in
    let is : c.index.result.now ≡ word_of g.K.HistoryName.log c.args.key = c.index.ensures ∙ are.1 c.args.key c.index.result.now (omega (arith, are.0, c.requires.0)) in
    rw (← (ap (λ (w : Named). w.key) is)) c.load.ensures.6.1
