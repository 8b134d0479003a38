use Rattle.cm_sequential.proofs.Going.{missed}
use Rattle.cm_sequential.proofs.state.NetworkState.miss.Goals as goal

pub returns : goal.returns
returns c = missed _ c.args.self.now _ c.args.id c.requires c.set_state.ensures.counted c.set_state.ensures.slaves
