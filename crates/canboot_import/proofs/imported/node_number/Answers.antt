use Rattle.std.proofs.Common.{ℕ, IfSome, subst}
use Rattle.cm_device.specs.DeviceFiles.{IsNumber}
use Rattle.canboot_import.proofs.imported.node_number.Goals as goal

pub returns : goal.returns
returns c = subst (λ (any : ℕ). IfSome c.number.result (IsNumber any c.args.value.now)) c.in_ok-new.ensures.value c.number.ensures.number
