use Rattle.std.proofs.Common.{◌≡◌, ◌∙◌, ◌<◌, ℕ, ap, sym, arith, length}
use Rattle.std.proofs.lemmas.List.{get_or_default}
use Rattle.cm_watch.specs.Kept.{blank_slave}
use Rattle.cm_watched.specs.KeptOfSlaves.{slave_after}
use Rattle.cm_watch.specs.Watches.{kept_at}
use Rattle.cm_watched.specs.declared.slave.Slave.{Slave}
use Rattle.cm_watch.proofs.About.{kept_apart}
use Rattle.cm_watch.proofs.Rows.{take_alone}
use Rattle.cm_watch.proofs.taking.take_one.Goals as goal

pub returns : goal.returns
returns c = λ past before i low high.
    let net = c.args.network.now in
    let m = c.args.moment.now in
    let rows = c.args.slaves.now in
    let after : ℕ → Slave → Slave = slave_after net c.args.settings c.args.now m in
    let place_is : c.from-place.result ≡ c.args.id = c.from-place.ensures ∙ c.get.ensures.value in
    let place_within : c.from-place.result < length rows = omega (arith, c.get.ensures.range.1, place_is, c.told-slaves) in
    let is : c.after.result ≡ after c.from-place.result (kept_at rows c.from-place.result) =
    c.after.ensures
    ∙ ap (λ (s : Slave). after c.args.id s) (get_or_default rows c.from-place.result _ blank_slave place_within)
    ∙ ap (λ (n : ℕ). after n (kept_at rows c.from-place.result)) (sym place_is) in
    let alone = take_alone after rows c.from-place.result c.after.result place_within is
    (λ j other k. kept_apart net c.args.settings c.args.now c.args.id j (λ same. other (same ∙ sym place_is)) k m c.requires.node) i in
    alone ∙ ap (after i) (before i low high)
