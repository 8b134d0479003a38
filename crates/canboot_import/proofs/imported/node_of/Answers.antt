use Rattle.std.proofs.Common.{◌∙◌, subst, sym}
use Rattle.cm_device.specs.DeviceFiles.{IsNumber}
use Rattle.canboot_import.proofs.Given.{as_byte, if_there}
use Rattle.canboot_import.proofs.imported.node_of.Goals as goal

pub returns : goal.returns
returns c =
    let value = c.args.value.now in
    let found = as_byte c.try_from.result _ c.in_ok-node_number.field-0 c.in_ok-found.found c.try_from.ensures c.in_ok-found.ensures.value in
    if_there c.new.result _ (IsNumber 1 value) (λ id same. subst (IsNumber 1 value) (sym (same ∙ found)) c.in_ok-node_number.ensures) c.new.ensures.value
