use Rattle.cm_can.proofs.Digits.{no_first, no_rest}
use Rattle.cm_can.proofs.text.+read_pairs.Goals as goal

pub returns-in_default-pair-clause-none : goal.returns-in_default-pair-clause-none
returns-in_default-pair-clause-none t c = λ bytes small spelled. no_first c.args.text.now bytes c.in-len2-up.len_at_least small c.in_default-pair.ensures.none spelled

pub returns-in_default-read_pairs-clause-none : goal.returns-in_default-read_pairs-clause-none
returns-in_default-read_pairs-clause-none t c = λ bytes small spelled. no_rest c.args.text.now bytes c.in-len2-up.len_at_least small c.in_default-read_pairs.ensures.none spelled
