use Rattle.std.proofs.Common.{rules}
use Rattle.cm_text.specs.Left.{left}
use Rattle.canboot_journals.proofs.ExpectedLines.{first_of}
use Rattle.canboot_journals.proofs.expected_words.first_line.Goals as goal

pub returns-else-is_done : goal.returns-else-is_done
returns-else-is_done c =
    first_of c.args.bytes.now c.in_ok-line.line.now (left c.next_field.new.self) _ c.new-lines.ensures (search rules) (search rules)
