use Rattle.std.proofs.Common.{refl, sym, ◌∙◌}
use Rattle.cm_history.specs.declared.call.Call.TheVariants as call
use Rattle.cm_history.specs.declared.call.Reply.TheVariants as reply
use Rattle.cm_history.specs.Orders.{to_every}
use Rattle.cm_history.proofs.Refused.{phase_same}
use Rattle.cm_sequential.specs.States.{kept_listing}
use Rattle.cm_sequential.proofs.Changes.{all_asked, requested}
use Rattle.cm_sequential.proofs.Going.{goes, own_asked}
use Rattle.cm_sequential.proofs.state.NetworkState.request_all.Goals as goal

pub returns : goal.returns
returns c = λ value asks.
    let net = kept_listing c.args.listing.now in
    let s = c.args.self.now in
    let asked = requested value c.args.command asks in
    goes net s _ c.obey.new.self (call.Request 128 value) reply.Done (to_every c.args.command) refl refl
    (λ counted. c.obey.ensures.counted net (c.clear_all.ensures.counted counted))
    (λ i small u. all_asked net value c.args.command i _ _ _ _ small asked.resets u c.is_reset.ensures (c.clear_all.ensures.slaves i small) (c.obey.ensures.slaves i small))
    (sym (phase_same s.phase)) (c.own_obeying-self.ensures ∙ own_asked net s.phase value c.args.command s.own asked.own) refl (λ i. refl)
