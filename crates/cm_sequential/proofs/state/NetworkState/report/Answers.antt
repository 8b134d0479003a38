use Rattle.std.proofs.Common.{ap}
use Rattle.cm_history.specs.NodeSets.{has}
use Rattle.cm_history.specs.declared.node_set.NodeSet.{NodeSet}
use Rattle.cm_history.specs.declared.call.Call.TheVariants as call
use Rattle.cm_history.specs.declared.call.Reply.TheVariants as reply
use Rattle.cm_sequential.specs.States.{kept_listing}
use Rattle.cm_sequential.proofs.Changes.{reported}
use Rattle.cm_sequential.proofs.Going.{goes}
use Rattle.cm_sequential.proofs.state.NetworkState.report.Goals as goal

pub returns : goal.returns
returns c = λ number.
    let net = kept_listing c.args.listing.now in
    goes net c.args.self.now c.settle.new.self c.obey.new.self (call.Report c.args.id number c.args.answers.now) (reply.Reported c.args.status) c.args.orders.now
    c.settle.ensures.own_id c.settle.ensures.slaves
    (λ counted. c.obey.ensures.counted net (c.end_boot.ensures.counted net counted))
    (λ i small u. reported net c.args.id number c.args.answers.now c.args.status c.args.orders.now i _ _ _ _ _ _ c.requires u
    c.is_good.ensures c.state_left-left.ensures c.to_all.ensures (c.end_boot.ensures.slaves i small) (c.obey.ensures.slaves i small))
    (rw (← c.is_fatal.ensures) c.settle.ensures.phase) c.settle.ensures.own c.settle.ensures.begun (λ i. ap (λ (h : NodeSet). has h i) c.settle.ensures.held)
