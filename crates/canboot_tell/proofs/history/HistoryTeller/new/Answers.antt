use Rattle.std.proofs.Common.{refl}
use Rattle.canboot_tell.proofs.history.HistoryTeller.new.Goals as goal

pub returns : goal.returns
returns c = record { network = refl; stands = c.new.ensures.stands; watches = c.new-2.ensures c.args.network.now; tries = c.new-3.ensures; count = refl }
