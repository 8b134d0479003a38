use Rattle.cm_sequential.proofs.Going.{noted}
use Rattle.cm_sequential.proofs.state.NetworkState.note.Goals as goal

pub returns : goal.returns
returns c = noted _ c.args.self.now _ c.args.id c.args.byte c.requires c.set_state.ensures.counted c.set_state.ensures.slaves
