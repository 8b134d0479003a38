use Rattle.cm_sequential.proofs.Going.{booted_up}
use Rattle.cm_sequential.proofs.state.NetworkState.boot_up.Goals as goal

pub returns : goal.returns
returns c = λ byte. booted_up _ c.args.self.now _ c.args.id byte _ c.requires c.code.ensures.code c.clear.ensures.counted c.clear.ensures.slaves
