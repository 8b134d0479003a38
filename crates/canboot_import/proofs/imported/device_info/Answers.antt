use Rattle.std.proofs.Common.{ℕ, Option, inl, inr, refl, subst}
use Rattle.std.specs.Prelude.{codes}
use Rattle.canboot_import.specs.LinesRead.{IsNumberRead}
use Rattle.cm_device.specs.FileValues.{StandsUnread}
use Rattle.canboot_import.proofs.Given.{if_err}
use Rattle.canboot_import.proofs.imported.device_info.Goals as goal

pub returns-in-Some-clause-read : goal.returns-in-Some-clause-read
returns-in-Some-clause-read c = λ file items all. inl (subst (λ (r : Option ℕ). IsNumberRead file c.args.node (codes "DeviceInfo") c.args.key.now r) c.in-Some.is (c.in_ok-value.ensures.read file items all))

pub returns-in-None-clause-read : goal.returns-in-None-clause-read
returns-in-None-clause-read c = λ file items all. inr (subst (λ (r : Option ℕ). IsNumberRead file c.args.node (codes "DeviceInfo") c.args.key.now r) c.in-None.is (c.in_ok-value.ensures.read file items all), refl)

pub returns-in_err-value-clause-unread : goal.returns-in_err-value-clause-unread
returns-in_err-value-clause-unread c = λ file items all. if_err c.from_residual.result (StandsUnread file c.args.node (codes "DeviceInfo") c.args.key.now) (c.in_err-value.ensures.unread file items all)
