use Rattle.cm_text.proofs.Splits.{none_left}
use Rattle.cm_text.proofs.fields.Fields.is_done.Goals as goal

pub returns : goal.returns
returns c = none_left c.args.self.now.separator c.args.self.now.rest c.is_none.result c.is_none.ensures
