use Rattle.std.proofs.Common.{eqb, Some, ap, ◌∙◌, arith}
use Rattle.std.specs.Int.Count.{count_trailing_zeros}
use Rattle.cm_text.proofs.Splits.{lowest_is_position}
use Rattle.cm_text.proofs.places.near_space.Goals as goal

pub returns-then-found-ne0 : goal.returns-then-found-ne0
returns-then-found-ne0 c =
    let is = c.spaces-found.ensures in
    ap (λ m. Some (count_trailing_zeros 64 m)) is ∙ lowest_is_position (λ b. eqb b 32) c.args.bytes.now c.if-bytes-ge16.true (omega (arith, is))
