use Rattle.std.proofs.Common.{ℕ, ◌+◌, ◌∙◌, ap}
use Rattle.std.specs.Prelude.{min}
use Rattle.canboot_picture.proofs.Puts.{placed}
use Rattle.canboot_picture.proofs.spans.put_span.Goals as goal

pub returns : goal.returns
returns g c =
    placed c.put_span_at.result _ _ c.args.span.state c.args.node _ _ _ _ _ _ _ _ _ _
    c.left_of-x.ensures.value c.top_of-y.ensures.value c.product-width.ensures.value (ap (λ (n : ℕ). n + 1) c.product-from.ensures.value)
    (c.min-to.ensures ∙ ap (λ (n : ℕ). min n c.args.scale.now.entries) c.product.ensures.value) c.put_span_at.ensures
