-- Which entry a publisher is told next (own).
use Rattle.std.specs.Prelude.{◌≡◌, List, [], ◌∷◌, ◌++◌}
use Rattle.cm_history.specs.declared.call.Entry.{Entry}
use Rattle.cm_versions.specs.Versions.{NextView}
use Rattle.cm_versions.specs.declared.fault.TellFault.{TellFault}
use Rattle.cm_versions.specs.declared.fault.TellFault.TheVariants as fault

-- the history up to the entry is what is known, and the entry behind it
abbrev pub Follows : List Entry → NextView → Type 0
Follows known next = next.after ≡ known ++ next.entry ∷ []

-- why a publisher that was told this much wasn't told this entry: it doesn't follow, or it does, and memory was refused
abbrev pub IsTellCause : List Entry → NextView → TellFault → Type 0
IsTellCause told next fault.NotNext = Follows told next → ⊥
IsTellCause told next fault.OutOfMemory = Follows told next
