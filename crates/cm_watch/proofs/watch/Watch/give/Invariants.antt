use Rattle.std.proofs.Common.{take}
use Rattle.cm_watched.specs.Pasts.{Past}
use Rattle.cm_watch.specs.Steps.{given}
use Rattle.cm_watch.specs.Watches.{Watches}
use Rattle.cm_watched.specs.declared.settings.Settings.{Settings}
use Rattle.cm_watch.proofs.watch.Watch.give.Given as goal

-- the steps so far were given
abbrev pub invariant-loop-step : goal.invariant-loop-step
invariant-loop-step l =
    (s : Settings) (past : Past) → Watches l.initial.self l.network s past
    → Watches l.self l.network s (given l.now_ms (take l.step-index l.steps) past)
