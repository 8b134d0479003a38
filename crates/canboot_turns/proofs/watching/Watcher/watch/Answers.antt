use Rattle.std.proofs.Common.{Err, ap, refl}
use Rattle.std.specs.Prelude.{is_some}
use Rattle.cm_watch.specs.Paces.{behind_at}
use Rattle.canboot_turns.specs.Causes.{HasTurned, stand_of}
use Rattle.canboot_turns.proofs.Going.{asked_on, on_and_on, on_any, still}
use Rattle.canboot_turns.proofs.watching.Watcher.watch.Goals as goal

pub loop-init : goal.loop-init
loop-init g c =
    record {
      can = tt;
      ends = tt;
      goes_on = still g.B.BusName.format g.B.BusName.text g.B.BusName.typed (stand_of c.args.self.now) (stand_of c.args.self.now) refl refl refl (λ s past f. f);
    }

pub loop-preserved : goal.loop-preserved
loop-preserved g c =
    let on = c.in-Ok.ensures.goes_on in
    record {
      can = tt;
      ends = tt;
      goes_on =
          on_and_on g.B.BusName.format g.B.BusName.text g.B.BusName.typed (stand_of c.args.self.now) (stand_of c.loop.self) (stand_of c.turn.new.self) c.loop.invariant.goes_on
          (on_any g.B.BusName.format g.B.BusName.text g.B.BusName.typed (HasTurned (is_some (behind_at on.0 on.1 on.2)) on.1) (stand_of c.loop.self) (stand_of c.turn.new.self) on.4);
    }

pub returns-in-Err : goal.returns-in-Err
returns-in-Err g c = λ e. asked_on g.B.BusName.format g.B.BusName.text g.B.BusName.typed (stand_of c.args.self.now) (stand_of c.loop.self) (stand_of c.turn.new.self) c.loop.invariant.goes_on (c.in-Err.ensures.asked (ap Err e))
