use Rattle.std.proofs.Common.{refl, sym, ◌∙◌, cond, Some, None}
use Rattle.cm_nmt.specs.declared.state.NmtState.TheVariants as state
use Rattle.cm_history.specs.declared.call.Call.TheVariants as call
use Rattle.cm_history.specs.declared.call.Reply.TheVariants as reply
use Rattle.cm_history.specs.Orders.{is_stop_all}
use Rattle.cm_history.proofs.Refused.{phase_same}
use Rattle.cm_sequential.specs.States.{kept_listing}
use Rattle.cm_sequential.proofs.Changes.{lost}
use Rattle.cm_sequential.proofs.Going.{goes, own_given}
use Rattle.cm_sequential.proofs.state.NetworkState.lose.Goals as goal

pub returns : goal.returns
returns c =
    let net = kept_listing c.args.listing.now in
    let s = c.args.self.now in
    let o = c.args.orders.now in
    goes net s _ c.obey.new.self (call.Lost c.args.id) reply.Handled o refl refl
    (λ counted. c.obey.ensures.counted net (c.clear.ensures.counted (c.clear_all.ensures.counted counted)))
    (λ i small u. lost net c.args.id o i _ _ _ _ _ _ c.requires u c.is_reset_all.ensures c.to_all.ensures
    (c.clear_all.ensures.slaves i small) (c.clear.ensures.slaves i small) (c.obey.ensures.slaves i small))
    (sym (phase_same s.phase))
    (c.own_after_loss-self.ensures ∙ sym (own_given net s.phase (cond (is_stop_all o) (Some state.Stopped) None) s.own))
    refl (λ i. refl)
