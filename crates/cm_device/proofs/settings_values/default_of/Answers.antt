use Rattle.std.proofs.Common.{inl, inr, refl, sym, ◌∙◌}
use Rattle.cm_device.proofs.settings_values.default_of.Goals as goal

pub returns : goal.returns
returns c = λ file all.
    let found = c.in_ok-item.ensures file all in
    record { has = found.0; key_is = inl (inr (sym c.has_default.ensures ∙ c.if-not-has_default.false, found.1.1), (found.1.0, refl)) }
