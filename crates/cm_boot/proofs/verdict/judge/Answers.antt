use Rattle.cm_boot.proofs.verdict.judge.Goals as goal

pub returns-clause-ends : goal.returns-clause-ends
returns-clause-ends c = rw (← c.terms.ensures.value) c.judge_terms.ensures.ends
