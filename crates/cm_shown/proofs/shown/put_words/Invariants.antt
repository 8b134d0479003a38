use Rattle.std.proofs.Common.{◌≡◌, ◌++◌, length}
use Rattle.std.specs.List.{join_with_byte}
use Rattle.cm_text.specs.Left.{left}
use Rattle.cm_shown.specs.Names.{name_of}
use Rattle.cm_shown.specs.Shown.{shown_line, shown_words}
use Rattle.cm_shown.proofs.shown.put_words.Given as goal

-- what is shown, and what is left as it will be, is the whole line as it is shown
abbrev pub invariant-loop-word : goal.invariant-loop-word
invariant-loop-word l =
    l.text.items ++ join_with_byte 32 (shown_words l.is_coloured (name_of l.names) l.before l.leads (left l.words))
    ≡ l.fn.text.items ++ shown_line l.is_coloured (name_of l.names) l.fn.line

abbrev pub decreases-loop-word : goal.decreases-loop-word
decreases-loop-word l = length (left l.words)
