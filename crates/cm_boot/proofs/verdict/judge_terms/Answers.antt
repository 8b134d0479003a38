use Rattle.std.proofs.Common.{ap, ◌∙◌, Option}
use Rattle.cm_nmt.specs.declared.terms.Terms.{Terms}
use Rattle.cm_nmt.specs.Verdict.{judged}
use Rattle.cm_boot.proofs.Reached.{ends_by}
use Rattle.cm_boot.proofs.verdict.judge_terms.Goals as goal

pub returns-clause-ends : goal.returns-clause-ends
returns-clause-ends c = λ s.
    let same = c.judged_by_tables.ensures ∙ ap (λ (t : Option Terms). judged t c.args.answers.now) c.as_ref.ensures.value in
    ends_by c.judged_by_tables.result c.args.terms c.args.answers.now c.count_ids.ensures.law same s
