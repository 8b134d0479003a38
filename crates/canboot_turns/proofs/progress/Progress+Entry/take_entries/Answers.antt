use Rattle.std.proofs.Common.{[], ◌∷◌, ◌++◌}
use Rattle.canboot_turns.specs.Going.{called_at}
use Rattle.canboot_turns.proofs.progress.Progress+Entry.take_entries.Goals as goal
use Rattle.canboot_turns.proofs.progress.Progress+Entry.take_entries.Goals.{in-None, in-Some+in-None-next_entry}

pub loop-init : goal.loop-init
loop-init g c = λ s past f. record { entries = []; follows = f }

pub loop-preserved : goal.loop-preserved
loop-preserved g c = λ s past f.
    let t = c.loop.invariant s past f in
    record {
      entries = c.in-Some-next_entry.entry ∷ t.entries;
      follows =
          c.in_ok-take_entry-in-Some-next_entry.ensures s (called_at c.args.now t.entries ++ past)
          (c.in-Some-next_entry.ensures.next c.args.network.now s (called_at c.args.now t.entries ++ past) t.follows);
    }

pub returns : goal.returns
returns g c =
    elim c.match-next.branch [
      | in-None w ↦ rw (w.self-is) c.loop.invariant
      | in-Some+in-None-next_entry w ↦ rw (w.self-is) (λ s past f.
          let t = c.loop.invariant s past f in
          record {
            entries = t.entries;
            follows = w.in-None-next_entry.ensures.none c.args.network.now s (called_at c.args.now t.entries ++ past) t.follows;
          })
    ]
