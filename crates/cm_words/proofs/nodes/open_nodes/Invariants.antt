use Rattle.std.proofs.Common.{◌≡◌, ◌≤◌, length, take}
use Rattle.std.specs.List.{filter}
use Rattle.cm_watched.specs.Pasts.{Past}
use Rattle.cm_watch.specs.Watches.{Watches}
use Rattle.cm_watched.specs.declared.settings.Settings.{Settings}
use Rattle.cm_words.specs.ToldLines.{is_open_in}
use Rattle.cm_words.proofs.nodes.open_nodes.Given as goal

abbrev pub invariant-loop-id : goal.invariant-loop-id
invariant-loop-id l =
    (length l.slaves.items ≤ l.id-index)
    × ((s : Settings) (past : Past) → Watches l.watch l.network s past
    → l.slaves.items ≡ filter (is_open_in l.network past) (take l.id-index l.id-items))
