use Rattle.std.proofs.Common.{refl, sym, ◌∙◌, inl, inr}
use Rattle.std.specs.Prelude.{bit_or}
use Rattle.cm_device.specs.FileValues.{IsSetting}
use Rattle.cm_device.proofs.Added.{added_if}
use Rattle.cm_device.proofs.settings.Settings.add_before.Goals as goal

pub returns-then-is_cob_id : goal.returns-then-is_cob_id
returns-then-is_cob_id c = λ file node may all.
    added_if c.add.result (IsSetting file node) c.args.self.now c.add.new.self _ all
    (may (bit_or c.args.value.1 2147483648) (inr (inl (sym c.is_cob_id.ensures ∙ c.if-is_cob_id.true, refl)))) c.add.ensures

pub returns-then-is_count : goal.returns-then-is_count
returns-then-is_count c = λ file node may all.
    added_if c.add-then-is_count.result (IsSetting file node) c.args.self.now c.add-then-is_count.new.self _ all
    (may 0 (inr (inr (sym c.is_count.ensures ∙ c.if-is_count.true, refl)))) c.add-then-is_count.ensures
