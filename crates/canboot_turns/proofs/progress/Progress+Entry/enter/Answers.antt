use Rattle.canboot_turns.specs.Going.{counts_in, placed_in}
use Rattle.canboot_turns.proofs.progress.Progress+Entry.enter.Goals as goal

pub returns : goal.returns
returns g c = λ s past f.
    c.take_entries.ensures s past (record {
      watches = f.watches;
      tries = f.tries;
      arrived = _;
      said = f.said;
      tells = c.in_ok-take.ensures.tells f.arrived (placed_in past) f.said (counts_in c.args.network.now past) f.tells;
    })
