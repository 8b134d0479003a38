use Rattle.std.proofs.Common.{inr}
use Rattle.canboot_live.proofs.ListedRuns.{fails_of, runs_of}
use Rattle.canboot_live.proofs.live.live_text.Goals as goal

pub returns-in-Ok-clause-done : goal.returns-in-Ok-clause-done
returns-in-Ok-clause-done g c = λ e.
    runs_of g.X.Sent.Write.contents c.args.options.bus.format (g.X.Received.Read.remaining c.args.ends.received) (g.X.Typed.Read.remaining c.args.ends.typed)
    c.in-Ok.network c.args.options.bus.workers 1048576 _ _ _ _ _ _ _ _ c.in-Ok.ensures.list c.args.options c.args.outputs.now.form (c.live_listed.ensures.done e)

pub returns-in-Ok-clause-refused : goal.returns-in-Ok-clause-refused
returns-in-Ok-clause-refused g c = λ e.
    let h = c.live_listed.ensures.refused e in
    record { cause = inr (c.in-Ok.network, c.in-Ok.ensures.list, h.0); kept = h.1; unwritten = h.2 }

pub returns-in-Ok-clause-failed : goal.returns-in-Ok-clause-failed
returns-in-Ok-clause-failed g c = λ e.
    fails_of g.X.Sent.Write.contents c.args.options.bus.format (g.X.Received.Read.remaining c.args.ends.received) (g.X.Typed.Read.remaining c.args.ends.typed)
    c.in-Ok.network c.args.options.bus.workers 1048576 _ _ _ _ _ _ _ _ c.in-Ok.ensures.list _ (c.live_listed.ensures.failed e)
