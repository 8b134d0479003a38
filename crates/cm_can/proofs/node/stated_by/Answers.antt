use Rattle.cm_can.proofs.node.stated_by.Goals as goal

pub returns-in_err-message-clause-answers : goal.returns-in_err-message-clause-answers
returns-in_err-message-clause-answers c = λ byte said. absurd (c.in_err-message.ensures.none c.args.node byte said)
