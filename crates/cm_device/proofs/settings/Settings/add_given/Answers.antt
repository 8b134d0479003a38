use Rattle.cm_device.specs.FileValues.{IsSetting}
use Rattle.cm_device.proofs.Added.{kept_if, setting}
use Rattle.cm_device.proofs.settings.Settings.add_given.Goals as goal

pub returns-in-Ok : goal.returns-in-Ok
returns-in-Ok c = λ file all gives before.
    let value = c.args.value.now in
    c.add_value.ensures file c.args.node
    (λ v is. setting file value.item.section.now value.item.key.now value.item.value.now value.described.section.now c.args.node value.object.0 value.object.1
    c.in-Ok.number.1 v gives.has gives.key_is is c.in-Ok.number.0 c.in-Ok.ensures.size (c.in-Ok.ensures.typed file all)) before

pub returns-in-Err : goal.returns-in-Err
returns-in-Err c = λ file all gives before. kept_if c.leave.result (IsSetting file c.args.node) c.args.self.now c.leave.new.self before c.leave.ensures
