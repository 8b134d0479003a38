use Rattle.std.proofs.Common.{◌≡◌, ap, sym, ◌∙◌, arith}
use Rattle.logbook.specs.Pages.{Named}
use Rattle.cm_growing.specs.Row.{word_of}
use Rattle.cm_growing.proofs.RowMoves.{ends}
use Rattle.cm_growing.proofs.row.Row.end.Goals as goal

pub compare_exchange-found-requires : goal.compare_exchange-found-requires
compare_exchange-found-requires g c =
    let are = c.args.self.now.words_are in
    let is : c.index.result.now ≡ word_of g.K.HistoryName.log 0 = c.index.ensures ∙ are.1 0 c.index.result.now (omega (arith, are.0)) in
    let offer = c.plain-offer.ensures in
    let pen = c.no_pen-pen.ensures in
    let of = c.look-word.ensures.book ∙ (c.requires ∙ sym (ap (λ (w : Named). w.book) is)) in (
      ap (λ (w : Named). w.tracked) is,
      of,
      pen.0 ∙ of,
      offer.0,
      rw (ap (λ (w : Named). w.key) is, pen.1, offer.3) (ends c.look-word.new.seen.log c.look-word.result c.plain-offer.result.ask),
    )
