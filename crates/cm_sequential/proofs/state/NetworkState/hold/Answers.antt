use Rattle.cm_sequential.proofs.Going.{held_one}
use Rattle.cm_sequential.proofs.state.NetworkState.hold.Goals as goal

pub returns : goal.returns
returns c = held_one _ c.args.self.now _ _ c.args.id _ c.requires c.state_left.ensures.left c.clear.ensures.counted c.clear.ensures.slaves c.insert.ensures
