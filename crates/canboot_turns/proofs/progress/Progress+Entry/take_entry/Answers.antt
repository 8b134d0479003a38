use Rattle.std.proofs.Common.{◌≡◌, ◌∙◌, ℕ, ◌∷◌, ◌++◌, [], ap, subst, length}
use Rattle.std.proofs.lemmas.Result.{on_ok_weaker}
use Rattle.cm_history.specs.OrderFrames.{frames_of}
use Rattle.cm_netlist.specs.Network.{listing}
use Rattle.cm_telling.specs.Waiting.{Tells}
use Rattle.cm_watched.specs.declared.happening.Happening.TheVariants.{Called}
use Rattle.cm_watched.specs.declared.happening.Moment.TheVariants.{Happened}
use Rattle.canboot_turns.specs.Going.{counts_in, placed_in}
use Rattle.canboot_turns.proofs.progress.Progress+Entry.take_entry.Goals as goal

pub returns : goal.returns
returns c = λ s past n.
    let net = c.args.network.now in
    let e = c.args.entry in
    let count : c.len-count.result ≡ length (frames_of (listing net) e.orders) = c.len-count.ensures.value ∙ ap length c.frames.ensures in
    on_ok_weaker c.wait.result
    (λ tells. record {
      watches = c.take-told.ensures.taken s past n.watches;
      tries = c.count.ensures c.args.now past n.tries;
      arrived = n.arrived;
      said = n.said;
      tells = subst (λ (k : ℕ). Tells c.wait.new.self n.arrived (placed_in ((c.args.now, Happened (Called e)) ∷ past)) n.said (counts_in net past ++ k ∷ [])) count tells;
    })
    (c.wait.ensures.tells n.arrived (placed_in past) n.said (counts_in net past) n.gives)
