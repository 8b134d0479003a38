use Rattle.std.proofs.Common.{◌≡◌, length, rules}
use Rattle.cm_text.proofs.Digits.{octet_weighs}
use Rattle.cm_text.proofs.hex.octet.Goals as goal

pub returns : goal.returns
returns c =
    let eight : length c.args.digits ≡ 8 = search rules in
    octet_weighs c.args.digits c.quad.result c.quad-2.result eight c.quad.ensures.value c.quad-2.ensures.value
