use Rattle.std.proofs.Common.{refl, inl}
use Rattle.cm_device.specs.FileValues.{IsSetting}
use Rattle.cm_device.proofs.Added.{added_if}
use Rattle.cm_device.proofs.settings.Settings.add_value.Goals as goal

pub returns : goal.returns
returns c = λ file node may all.
    added_if c.add.result (IsSetting file node) c.add_before.new.self c.add.new.self _
    (c.in_ok-add_before.ensures file node may all) (may c.args.value.1 (inl refl)) c.add.ensures
