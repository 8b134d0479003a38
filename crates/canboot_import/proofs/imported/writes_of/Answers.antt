use Rattle.std.proofs.Common.{List, length, get_or, ap, sym, subst, ◌∙◌, arith}
use Rattle.cm_device.specs.FileValues.{IsSetting}
use Rattle.cm_device.specs.declared.settings.Setting.{Setting}
use Rattle.cm_device.proofs.Added.{pushed}
use Rattle.canboot_import.proofs.imported.writes_of.Goals as goal

pub loop-setting-preserved : goal.loop-setting-preserved
loop-setting-preserved c = λ file node all.
    let one = c.setting-item.result in
    let at = c.loop-setting.setting-index in
    let same = c.as_slice-setting-items.ensures.value in
    let is = c.setting-item.is ∙ ap (λ (xs : List Setting). get_or xs at one) same in
    let set = subst (λ (s : Setting). IsSetting file node s.write) (sym is) (all at one (omega (arith, c.loop-setting-test.true, ap length same))) in
    pushed c.try_push.result (IsSetting file node) c.loop-setting.writes c.try_push.new.self one.write (c.loop-setting.invariant file node all) set
    c.try_push.ensures.ok c.try_push.ensures.err
