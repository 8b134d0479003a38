use Rattle.std.proofs.Common.{Option, None}
use Rattle.std.proofs.lemmas.List.{get_or-replicate}
use Rattle.cm_run.specs.declared.bus.Attached.{Attached}
use Rattle.cm_run.proofs.bus.SimBus.new.Goals as goal

pub returns : goal.returns
returns c = λ i small. get_or-replicate {A = Option Attached} 128 i None None small
