use Rattle.cm_sequential.proofs.Standing.{stands_answer}
use Rattle.cm_sequential.proofs.manager.Manager.answer.Goals as goal

pub returns-clause-answer : goal.returns-clause-answer
returns-clause-answer c = λ net past st.
    stands_answer c.args.self.now net past c.args.call.now c.answer_by_tables.result.0 c.answer_by_tables.result.1 st c.answer_by_tables.ensures
