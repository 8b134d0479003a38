use Rattle.std.proofs.Common.{◌∙◌, ◌≡◌, ◌||◌, not, true, rules}
use Rattle.cm_nmt.specs.Fields.{fields}
use Rattle.cm_nmt.specs.Conditions.{condition, is_complete, is_used, writes_are_counted}
use Rattle.cm_nmt.specs.declared.field.Field.{Field}
use Rattle.cm_nmt.proofs.Both.{chosen_by_both}
use Rattle.cm_nmt.proofs.judging.lawful_identity.Goals as goal

pub returns-clause-lawful : goal.returns-clause-lawful
returns-clause-lawful c =
    let t = c.args.terms.now in
    let a = c.args.answers.now in
    let counted : writes_are_counted t a ≡ true = search rules in
    let due = λ (f : Field). not (is_used a f) || condition t a f in
    let complete = λ (f : Field). not (condition t a f) || is_complete t a f in
    c.identity_of_settled.ensures ∙ chosen_by_both (writes_are_counted t a) due complete fields _ _ counted
