use Rattle.std.proofs.Common.{◌≡◌, length}
use Rattle.cm_text.specs.Left.{left}
use Rattle.cm_operator.specs.Console.{some_words}
use Rattle.cm_operator.proofs.console.next_word.Given as goal

abbrev pub invariant-loop-word : goal.invariant-loop-word
invariant-loop-word l = some_words (left l.fields) ≡ some_words (left l.initial.fields)

abbrev pub decreases-loop-word : goal.decreases-loop-word
decreases-loop-word l = length (left l.fields)
