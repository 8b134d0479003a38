use Rattle.std.proofs.Common.{refl}
use Rattle.canboot_turns.specs.Causes.{stand_of}
use Rattle.canboot_turns.proofs.Going.{on_and_on, still}
use Rattle.canboot_turns.proofs.watching.Watcher.hear_messages.Goals as goal

pub loop-init : goal.loop-init
loop-init g c = still g.B.BusName.format g.B.BusName.text g.B.BusName.typed (stand_of c.args.self.now) (stand_of c.args.self.now) refl refl refl (λ s past f. f)

pub loop-preserved : goal.loop-preserved
loop-preserved g c = on_and_on g.B.BusName.format g.B.BusName.text g.B.BusName.typed (stand_of c.args.self.now) (stand_of c.loop.self) (stand_of c.hear_message.new.self) c.loop.invariant c.in_ok-hear_message.ensures.goes_on
