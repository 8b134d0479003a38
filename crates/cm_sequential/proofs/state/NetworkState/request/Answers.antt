use Rattle.std.proofs.Common.{◌≡◌, sym, ◌∙◌}
use Rattle.std.proofs.lemmas.Bool.{false≢true}
use Rattle.cm_sequential.proofs.Granting.{all_orders, to_all_target}
use Rattle.cm_sequential.proofs.state.NetworkState.request.Goals as goal

pub returns-in-None : goal.returns-in-None
returns-in-None c =
    let target : c.args.target ≡ 128 = to_all_target _ _ _ _ _ _ c.requires (λ id. false≢true (c.in-None.ensures.valid.1 id)) in
    let granted = rw target at c.requires in
    let asks = sym c.of_request.ensures.value ∙ c.in-Some.is in
    rw (target, all_orders _ _ _ _ _ _ granted (λ e. c.if-target-get.false (target ∙ e ∙ sym c.own_id.ensures ∙ sym c.get.ensures.value)) asks)
    (c.request_all.ensures c.args.value asks)
