use Rattle.cm_sequential.proofs.Going.{began}
use Rattle.cm_sequential.proofs.state.NetworkState.begin.Goals as goal

pub returns : goal.returns
returns c = began _ c.args.self.now _ c.args.id c.begin.ensures.counted c.begin.ensures.slaves
