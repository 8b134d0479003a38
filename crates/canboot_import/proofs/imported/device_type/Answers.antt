use Rattle.std.proofs.Common.{ℕ, Option, inl, inr, refl, subst}
use Rattle.std.specs.Prelude.{codes}
use Rattle.canboot_import.specs.LinesRead.{IsObjectRead}
use Rattle.canboot_import.specs.Imports.{IsObjectUnread}
use Rattle.canboot_import.proofs.Given.{if_err}
use Rattle.canboot_import.proofs.imported.device_type.Goals as goal

pub returns-in-Some-clause-read : goal.returns-in-Some-clause-read
returns-in-Some-clause-read c = λ file items all. inl (subst (λ (r : Option ℕ). IsObjectRead file c.args.node (codes "1000") r) c.in-Some.is (c.in_ok-value.ensures.read file items all))

pub returns-in-None-clause-read : goal.returns-in-None-clause-read
returns-in-None-clause-read c = λ file items all. inr (subst (λ (r : Option ℕ). IsObjectRead file c.args.node (codes "1000") r) c.in-None.is (c.in_ok-value.ensures.read file items all), refl)

pub returns-in_err-value-clause-unread : goal.returns-in_err-value-clause-unread
returns-in_err-value-clause-unread c = λ file items all. if_err c.from_residual.result (IsObjectUnread file c.args.node (codes "1000")) (c.in_err-value.ensures.unread file items all)
