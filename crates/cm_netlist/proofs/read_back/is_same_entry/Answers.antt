use Rattle.std.proofs.Common.{◌∙◌, sym}
use Rattle.cm_netlist.proofs.Entries.{same_entry}
use Rattle.cm_netlist.proofs.read_back.is_same_entry.Goals as goal

pub returns : goal.returns
returns c = λ yes. same_entry c.args.one.now c.args.other.now (sym c.eq.ensures ∙ yes)
