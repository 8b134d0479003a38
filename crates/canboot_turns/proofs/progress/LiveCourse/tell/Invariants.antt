use Rattle.std.proofs.Common.{◌≡◌}
use Rattle.cm_watched.specs.Pasts.{Past}
use Rattle.cm_watched.specs.declared.settings.Settings.{Settings}
use Rattle.canboot_turns.specs.Going.{Follows}
use Rattle.canboot_turns.proofs.progress.LiveCourse.tell.Given as goal

-- to tell changes nothing of the past
abbrev pub invariant-loop : goal.invariant-loop
invariant-loop g l = record {
  follows : (s : Settings) (past : Past) → Follows l.initial.self.progress l.initial.self.network.now s past
      → Follows l.self.progress l.initial.self.network.now s past;
  network : l.self.network ≡ l.initial.self.network;
}
