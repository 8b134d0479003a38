use Rattle.cm_device.specs.FileValues.{IsSetting}
use Rattle.cm_device.proofs.Added.{kept_if}
use Rattle.cm_device.proofs.settings.Settings.add_mapped.Goals as goal

pub returns-then-not-is_mapped : goal.returns-then-not-is_mapped
returns-then-not-is_mapped c = λ file all gives before. kept_if c.leave.result (IsSetting file c.args.node) c.args.self.now c.leave.new.self before c.leave.ensures

pub returns : goal.returns
returns c = λ file all gives before.
    c.add_default-2.ensures file all (c.in_ok-add_default.ensures file all (c.in_ok-add_given.ensures file all gives before))
