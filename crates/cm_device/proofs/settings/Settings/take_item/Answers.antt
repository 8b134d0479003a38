use Rattle.cm_device.specs.FileValues.{IsSetting}
use Rattle.cm_device.proofs.Added.{kept_if}
use Rattle.cm_device.proofs.settings.Settings.take_item.Goals as goal

pub returns-in_default : goal.returns-in_default
returns-in_default c = λ file all is before.
    kept_if c.leave_compact.result (IsSetting file c.args.node) c.args.self.now c.leave_compact.new.self before c.leave_compact.ensures

pub returns-then-is_mapping : goal.returns-then-is_mapping
returns-then-is_mapping c = λ file all is before. c.add_mapped.ensures file all (c.in-Some.ensures file all is).1 before

pub returns-else-is_mapping : goal.returns-else-is_mapping
returns-else-is_mapping c = λ file all is before. c.add_given.ensures file all (c.in-Some.ensures file all is).1 before
