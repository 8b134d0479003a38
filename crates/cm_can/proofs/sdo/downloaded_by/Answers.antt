use Rattle.cm_can.proofs.sdo.downloaded_by.Goals as goal

pub returns-in-None-clause-answers : goal.returns-in-None-clause-answers
returns-in-None-clause-answers c = λ command word said. absurd (c.in-None.ensures.none command word said)
