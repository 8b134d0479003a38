use Rattle.canboot_journals.proofs.ExpectedLines.{expected_there}
use Rattle.canboot_journals.proofs.expected_words.expected_in.Goals as goal

pub returns : goal.returns
returns c =
    expected_there c.args.bytes.now _ _ c.in_ok-line.line.now c.expected_answer.result c.parted.ensures c.in_ok-line.ensures c.expected_answer.ensures
