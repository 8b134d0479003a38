use Rattle.std.proofs.Common.{arith}
use Rattle.cm_sequential.proofs.Going.{asked}
use Rattle.cm_sequential.proofs.state.NetworkState.request_one.Goals as goal

pub returns : goal.returns
returns c = λ v asks. asked _ c.args.self.now _ c.args.id v c.args.command c.requires (omega arith) asks c.obey_alone.ensures.counted c.obey_alone.ensures.slaves
