use Rattle.std.proofs.Common.{◌≡◌, ◌≤◌, List, length, take}
use Rattle.std.specs.List.{filter}
use Rattle.cm_history.specs.declared.call.Entry.{Entry}
use Rattle.cm_sequential.specs.Standing.{Stands}
use Rattle.cm_words.specs.ToldLines.{is_running_in}
use Rattle.cm_words.proofs.nodes.running_by.Given as goal

abbrev pub invariant-loop-id : goal.invariant-loop-id
invariant-loop-id l =
    (length l.running.items ≤ l.id-index)
    × ((past : List Entry) → Stands l.manager l.network past
    → l.running.items ≡ filter (is_running_in l.network past) (take l.id-index l.id-items))
