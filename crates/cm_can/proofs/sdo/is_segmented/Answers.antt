use Rattle.cm_can.proofs.sdo.is_segmented.Goals as goal

pub returns-in-None-clause-no : goal.returns-in-None-clause-no
returns-in-None-clause-no c = λ none word said. c.in-None.ensures.none 65 word said
