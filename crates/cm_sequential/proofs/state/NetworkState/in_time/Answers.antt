use Rattle.std.proofs.Common.{ap}
use Rattle.cm_history.specs.NodeSets.{has}
use Rattle.cm_history.specs.declared.node_set.NodeSet.{NodeSet}
use Rattle.cm_history.specs.declared.call.Call.TheVariants as call
use Rattle.cm_history.specs.declared.call.Reply.TheVariants as reply
use Rattle.cm_sequential.specs.States.{kept_listing}
use Rattle.cm_sequential.proofs.Changes.{passed}
use Rattle.cm_sequential.proofs.Going.{goes}
use Rattle.cm_sequential.proofs.state.NetworkState.in_time.Goals as goal

pub returns : goal.returns
returns c = λ ms.
    let net = kept_listing c.args.listing.now in
    goes net c.args.self.now c.settle.new.self c.obey.new.self (call.Elapsed ms) reply.InTime c.args.orders.now
    c.settle.ensures.own_id c.settle.ensures.slaves (c.obey.ensures.counted net)
    (λ i small u. passed net ms c.args.orders.now i _ _ _ u c.to_all.ensures (c.obey.ensures.slaves i small))
    c.settle.ensures.phase c.settle.ensures.own c.settle.ensures.begun (λ i. ap (λ (h : NodeSet). has h i) c.settle.ensures.held)
