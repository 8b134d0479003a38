use Rattle.std.proofs.Common.{◌≡◌, true, false, take}
use Rattle.cm_text.specs.Ends.{Lacks, Holds}
use Rattle.cm_text.proofs.near.has_byte.Given as goal

-- the byte isn't in those so far, or it is in the text
abbrev pub invariant-loop-at : goal.invariant-loop-at
invariant-loop-at l = (l.held ≡ false → Lacks l.byte (take l.at l.text)) × (l.held ≡ true → Holds l.byte l.text)
