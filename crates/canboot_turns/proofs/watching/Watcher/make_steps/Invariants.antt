use Rattle.std.proofs.Common.{◌≡◌, take}
use Rattle.cm_watched.specs.Pasts.{Past}
use Rattle.cm_watch.specs.Steps.{given}
use Rattle.cm_telling.specs.Tried.{Tries}
use Rattle.canboot_turns.specs.Steps.{HasMade}
use Rattle.canboot_turns.proofs.watching.Watcher.make_steps.Given as goal

-- the steps so far were made, and what came of the boots is what it is behind them; the watch is the one that gave them
abbrev pub invariant-loop-step : goal.invariant-loop-step
invariant-loop-step g l = record {
  made : HasMade (take l.step-index l.step-items) l.fn.self.operator l.self.operator;
  tries : (past : Past) → Tries l.initial.self.course.progress.tried past
      → Tries l.self.course.progress.tried (given l.now (take l.step-index l.step-items) past);
  waiting : l.self.course.progress.waiting ≡ l.initial.self.course.progress.waiting;
  watch : l.self.course.progress.watch ≡ l.initial.self.course.progress.watch;
  pace : l.self.pace ≡ l.initial.self.pace;
  heard : l.self.heard_upto ≡ l.initial.self.heard_upto;
  network : l.self.course.network ≡ l.initial.self.course.network;
}
