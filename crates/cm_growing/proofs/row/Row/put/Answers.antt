use Rattle.std.proofs.Common.{◌≡◌, ap, sym, ◌∙◌, arith}
use Rattle.logbook.specs.Pages.{Named}
use Rattle.cm_growing.specs.Row.{word_of}
use Rattle.cm_growing.proofs.RowMoves.{put_true, puts}
use Rattle.cm_growing.proofs.row.Row.put.Goals as goal

pub compare_exchange-found-requires : goal.compare_exchange-found-requires
compare_exchange-found-requires g c =
    let are = c.args.self.now.words_are in
    let is : c.index.result.now ≡ word_of g.K.HistoryName.log c.args.key = c.index.ensures ∙ are.1 c.args.key c.index.result.now (omega (arith, are.0, c.requires.key.0)) in
    let offer = c.plain-offer.ensures in
    let pen = c.no_pen-pen.ensures in
    let of : c.args.seen.now.book ≡ c.index.result.now.book = c.requires.key.1 ∙ sym (ap (λ (w : Named). w.book) is) in (
      ap (λ (w : Named). w.tracked) is,
      of,
      pen.0 ∙ of,
      offer.0,
      rw (ap (λ (w : Named). w.key) is, pen.1, offer.1, offer.3, c.requires.key.2) (puts c.args.seen.now.log c.args.key c.args.old c.args.new (g.A.Plain.ask c.args.about.now) c.requires.key.0 c.requires.keeps),
    )

pub returns-clause-added : goal.returns-clause-added
returns-clause-added g c =
    let are = c.args.self.now.words_are in
    let is : c.index.result.now ≡ word_of g.K.HistoryName.log c.args.key = c.index.ensures ∙ are.1 c.args.key c.index.result.now (omega (arith, are.0, c.requires.key.0)) in
    rw (← (ap (λ (w : Named). w.key) is), ← c.plain-offer.ensures.1)
    (λ t. put_true c.index.result.now.key c.args.old c.args.new c.compare_exchange-found.result c.plain-offer.result.ask
    (c.args.seen.now.log, (c.no_pen-pen.result.nib, c.plain-offer.result.state)) (c.compare_exchange-found.new.seen.log, (c.compare_exchange-found.new.pen.nib, c.compare_exchange-found.new.offer.state))
    t c.compare_exchange-found.ensures.7)
