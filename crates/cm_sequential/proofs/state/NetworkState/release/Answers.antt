use Rattle.cm_sequential.proofs.Going.{released_one}
use Rattle.cm_sequential.proofs.state.NetworkState.release.Goals as goal

pub returns : goal.returns
returns c = released_one _ c.args.self.now _ c.args.id c.requires c.remove.ensures
