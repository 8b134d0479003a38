use Rattle.std.proofs.Common.{ℕ, Option, inl, inr, subst}
use Rattle.std.specs.Prelude.{codes}
use Rattle.canboot_import.specs.LinesRead.{IsNumberRead}
use Rattle.cm_device.specs.FileValues.{StandsUnread}
use Rattle.canboot_import.specs.Imports.{IsObjectUnread}
use Rattle.canboot_import.proofs.Given.{err_if, if_err, or_default}
use Rattle.canboot_import.proofs.imported.object_value.Goals as goal

pub returns-in-Some-clause-read : goal.returns-in-Some-clause-read
returns-in-Some-clause-read c = λ file items all.
    inl (subst (λ (r : Option ℕ). IsNumberRead file c.args.node c.args.name.now (codes "ParameterValue") r) c.in-Some.is (c.in_ok-value.ensures.read file items all))

pub returns-in-None-clause-read : goal.returns-in-None-clause-read
returns-in-None-clause-read c = λ file items all.
    or_default file c.args.node c.args.name.now c.read_number-in-None.result
    (subst (λ (r : Option ℕ). IsNumberRead file c.args.node c.args.name.now (codes "ParameterValue") r) c.in-None.is (c.in_ok-value.ensures.read file items all))
    (c.read_number-in-None.ensures.read file items all)

pub returns-in_err-value-clause-unread : goal.returns-in_err-value-clause-unread
returns-in_err-value-clause-unread c = λ file items all. if_err c.from_residual.result (IsObjectUnread file c.args.node c.args.name.now) (inl (c.in_err-value.ensures.unread file items all))

pub returns-in-None-clause-unread : goal.returns-in-None-clause-unread
returns-in-None-clause-unread c = λ file items all.
    err_if c.read_number-in-None.result (StandsUnread file c.args.node c.args.name.now (codes "DefaultValue")) (IsObjectUnread file c.args.node c.args.name.now)
    (λ un. inr (subst (λ (r : Option ℕ). IsNumberRead file c.args.node c.args.name.now (codes "ParameterValue") r) c.in-None.is (c.in_ok-value.ensures.read file items all), un))
    (c.read_number-in-None.ensures.unread file items all)
