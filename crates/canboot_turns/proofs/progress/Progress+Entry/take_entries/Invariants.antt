use Rattle.cm_watched.specs.Pasts.{Past}
use Rattle.cm_watched.specs.declared.settings.Settings.{Settings}
use Rattle.canboot_turns.specs.Going.{Follows, HasToldEntries}
use Rattle.canboot_turns.proofs.progress.Progress+Entry.take_entries.Given as goal

-- entries were told so far, and nothing else
abbrev pub invariant-loop : goal.invariant-loop
invariant-loop g l = (s : Settings) (past : Past) → Follows l.initial.self l.network s past → HasToldEntries l.self l.network s past l.now
