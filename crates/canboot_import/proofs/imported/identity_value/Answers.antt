use Rattle.std.proofs.Common.{ℕ, inl, inr, sym, subst, ◌∙◌}
use Rattle.canboot_import.specs.Imports.{IsIdentityUnread, IsObjectValue}
use Rattle.std.specs.Prelude.{codes}
use Rattle.cm_device.specs.FileValues.{StandsUnread}
use Rattle.canboot_import.proofs.Given.{err_if, if_err, is_0, is_value, of_info}
use Rattle.canboot_import.proofs.imported.identity_value.Goals as goal

pub returns-then-number-eq0-clause-read : goal.returns-then-number-eq0-clause-read
returns-then-number-eq0-clause-read c = λ file items all.
    let name = c.args.name.now in
    of_info file c.args.node name c.args.key.now c.device_info.result
    (is_0 file c.args.node name c.in_ok-value.value (c.in_ok-value.ensures.read file items all) (sym c.or_0-number.ensures ∙ c.if-number-eq0.true)) (c.device_info.ensures.read file items all)

pub returns-clause-read : goal.returns-clause-read
returns-clause-read c = λ file items all.
    let name = c.args.name.now in
    inl (subst (λ (n : ℕ). IsObjectValue file c.args.node name n) (sym c.or_0-number.ensures)
    (is_value file c.args.node name c.in_ok-value.value (c.in_ok-value.ensures.read file items all) (λ is. c.if-number-eq0.false (c.or_0-number.ensures ∙ is))))

pub returns-in_err-value-clause-unread : goal.returns-in_err-value-clause-unread
returns-in_err-value-clause-unread c = λ file items all.
    if_err c.from_residual.result (IsIdentityUnread file c.args.node c.args.name.now c.args.key.now) (inl (c.in_err-value.ensures.unread file items all))

pub returns-then-number-eq0-clause-unread : goal.returns-then-number-eq0-clause-unread
returns-then-number-eq0-clause-unread c = λ file items all.
    let name = c.args.name.now in
    let key = c.args.key.now in
    err_if c.device_info.result (StandsUnread file c.args.node (codes "DeviceInfo") key) (IsIdentityUnread file c.args.node name key)
    (λ un. inr (is_0 file c.args.node name c.in_ok-value.value (c.in_ok-value.ensures.read file items all) (sym c.or_0-number.ensures ∙ c.if-number-eq0.true), un))
    (c.device_info.ensures.unread file items all)
