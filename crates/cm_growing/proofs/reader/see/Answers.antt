use Rattle.std.proofs.Common.{[], ◌∷◌, ◌==◌, ◌≤◌, ◌<◌, ℕ, ap, sym, ◌∙◌, arith}
use base.Growing.{prefix_trans}
use Rattle.cm_growing.specs.Items.{IsOf}
use Rattle.cm_growing.specs.declared.log_item.LogItem.TheVariants as item
use Rattle.cm_growing.specs.Row.{Found}
use Rattle.cm_growing.proofs.Looking.{looked_before, looked_current, looked_done}
use Rattle.cm_growing.proofs.Refreshing.{split_is}
use Rattle.cm_growing.proofs.reader.see.Goals as goal

pub returns-then-status-get-clause-looked : goal.returns-then-status-get-clause-looked
returns-then-status-get-clause-looked g c =
    let net = g.K.HistoryName.net in
    let xs = c.look-word.new.seen.log in
    let of : IsOf net xs = prefix_trans (item.Opened net ∷ []) c.args.seen.now.log xs c.requires.of.1 c.look-word.ensures.later in
    rw (c.of-status.ensures.state, c.of-status.ensures.done) (looked_current net xs c.args.id c.look-word.result c.look-word.ensures.found c.if-word.false of (omega (arith, c.get.ensures.value, c.get.ensures.range))
    (sym c.of-status.ensures.node ∙ c.if-status-get.true ∙ c.get.ensures.value))

pub returns-then-found-status-clause-looked : goal.returns-then-found-status-clause-looked
returns-then-found-status-clause-looked g c =
    let net = g.K.HistoryName.net in
    let xs = c.look-word.new.seen.log in
    let ys = c.look-node_word.new.seen.log in
    let of : IsOf net ys = prefix_trans (item.Opened net ∷ []) xs ys (prefix_trans (item.Opened net ∷ []) c.args.seen.now.log xs c.requires.of.1 c.look-word.ensures.later) c.look-node_word.ensures.later in
    let low : 1 ≤ c.args.id = omega (arith, c.get.ensures.value, c.get.ensures.range) in
    let small : c.args.id < 128 = omega (arith, c.get.ensures.value, c.get.ensures.range) in
    let there : Found c.args.id c.look-node_word.result ys = rw (← (c.from.ensures ∙ c.get-2.ensures.value)) c.look-node_word.ensures.found in
    let is = split_is net ys c.args.id c.look-node_word.result c.found-found.result.since c.found-found.result.state c.found-found.result.before c.eq.result of low small there
    (c.eq.ensures ∙ ap (λ (k : ℕ). c.args.id == k) c.requires.own) c.found-found.ensures in
    rw c.of-status.ensures.done (looked_done net xs ys c.args.id c.look-word.result c.look-node_word.result c.found-found.result.since c.found-found.result.state
    c.look-word.ensures.found c.if-word.false (λ here. c.if-status-get.false (c.of-status.ensures.node ∙ here ∙ sym c.get.ensures.value)) c.look-node_word.ensures.later of low small there is.0 is.1 (rw c.of-status.ensures.done at c.if-found-status.true))

pub returns-else-found-status-clause-looked : goal.returns-else-found-status-clause-looked
returns-else-found-status-clause-looked g c =
    let net = g.K.HistoryName.net in
    let xs = c.look-word.new.seen.log in
    let ys = c.look-node_word.new.seen.log in
    let of : IsOf net ys = prefix_trans (item.Opened net ∷ []) xs ys (prefix_trans (item.Opened net ∷ []) c.args.seen.now.log xs c.requires.of.1 c.look-word.ensures.later) c.look-node_word.ensures.later in
    let low : 1 ≤ c.args.id = omega (arith, c.get.ensures.value, c.get.ensures.range) in
    let small : c.args.id < 128 = omega (arith, c.get.ensures.value, c.get.ensures.range) in
    let there : Found c.args.id c.look-node_word.result ys = rw (← (c.from.ensures ∙ c.get-2.ensures.value)) c.look-node_word.ensures.found in
    let is = split_is net ys c.args.id c.look-node_word.result c.found-found.result.since c.found-found.result.state c.found-found.result.before c.eq.result of low small there
    (c.eq.ensures ∙ ap (λ (k : ℕ). c.args.id == k) c.requires.own) c.found-found.ensures in
    looked_before net ys c.args.id c.look-node_word.result c.found-found.result.since c.found-found.result.before of low small there is.0 is.2 (omega (arith, c.if-found-status.false))

pub returns-then-found-status-clause-book : goal.returns-then-found-status-clause-book
returns-then-found-status-clause-book g c = c.look-node_word.ensures.book ∙ c.look-word.ensures.book

pub returns-then-found-status-clause-later : goal.returns-then-found-status-clause-later
returns-then-found-status-clause-later g c =
    prefix_trans c.args.seen.now.log c.look-word.new.seen.log c.look-node_word.new.seen.log c.look-word.ensures.later c.look-node_word.ensures.later

pub returns-else-found-status-clause-book : goal.returns-else-found-status-clause-book
returns-else-found-status-clause-book g c = c.look-node_word.ensures.book ∙ c.look-word.ensures.book

pub returns-else-found-status-clause-later : goal.returns-else-found-status-clause-later
returns-else-found-status-clause-later g c =
    prefix_trans c.args.seen.now.log c.look-word.new.seen.log c.look-node_word.new.seen.log c.look-word.ensures.later c.look-node_word.ensures.later
