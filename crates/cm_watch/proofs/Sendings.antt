-- What is sent for error control is nothing that a node causes by itself.
use Rattle.std.proofs.Common.{ℕ, Bool, true, false, List, [], ◌∷◌, sym, subst, map}
use Rattle.std.specs.List.{filter}
use Rattle.cm_netlist.specs.Network.{Network}
use Rattle.cm_nmt.specs.Listing.{node_ids}
use Rattle.cm_watched.specs.Beats.{beat_byte, beat_last, is_beat_due, own_in}
use Rattle.cm_watch.specs.ErrorControl.{error_control_at}
use Rattle.cm_watched.specs.Guarding.{is_guard_due}
use Rattle.cm_watch.specs.Limits.{AreLimited}
use Rattle.cm_watched.specs.Pasts.{Past}
use Rattle.cm_watch.specs.Steps.{given, step_if}
use Rattle.cm_watched.specs.declared.happening.Moment.TheVariants as moment
use Rattle.cm_watched.specs.declared.happening.Step.TheVariants as step
use Rattle.cm_watched.specs.declared.settings.Settings.{Settings}
use Rattle.cm_watch.proofs.Limits.{false_true}
use Rattle.cm_watch.proofs.Steps.{given-append}

module _ (net : Network) (s : Settings) (now i : ℕ) where
  beat_limited : (b : Bool) (x : ℕ) (past : Past) → AreLimited net s past i → AreLimited net s (given now (step_if b (step.Beat x)) past) i
  beat_limited true x past limited = (λ e. false_true e, limited)
  beat_limited false x past limited = limited

  guards_limited : (ids : List ℕ) (past : Past) → AreLimited net s past i → AreLimited net s (given now (map step.Guard ids) past) i
  guards_limited [] past limited = limited
  guards_limited (j ∷ ids) past limited = guards_limited ids ((now, moment.Gave (step.Guard j)) ∷ past) (λ e. false_true e, limited)

  pub sendings_limited : (past : Past) → AreLimited net s past i → AreLimited net s (given now (error_control_at net s past now) past) i
  sendings_limited past limited =
      let b = is_beat_due s.heartbeat_ms now (beat_last past) in
      let x = beat_byte (beat_last past) (own_in net past) in
      let ids = filter (is_guard_due net past now) node_ids in
      subst (λ (q : Past). AreLimited net s q i) (sym (given-append now (step_if b (step.Beat x)) (map step.Guard ids) past))
      (guards_limited ids (given now (step_if b (step.Beat x)) past) (beat_limited b x past limited))
