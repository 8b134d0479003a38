use Rattle.std.proofs.Common.{◌≡◌, ℕ, ◌<◌, length, get_or, arith, None}
use Rattle.std.proofs.lemmas.Grind.{common_steps}
use Rattle.std.proofs.lemmas.List.{get_or_default}
use Rattle.cm_typed.specs.NodeLists.{number_in}
use Rattle.cm_typed.proofs.Digits.{number_done, number_more, number_none, number_of_some}
use Rattle.cm_typed.proofs.node_lists.number_in.Goals as goal

pub loop-digit-init : goal.loop-digit-init
loop-digit-init c =
    let some : 0 < length c.args.digits.now = grind (arith, common_steps) in
    number_of_some c.args.base c.args.digits.now some

pub loop-digit-preserved : goal.loop-digit-preserved
loop-digit-preserved c =
    let digits = c.args.digits.now in
    let at = c.loop-digit.digit-index in
    let digit : ℕ = get_or digits at 0 in
    number_more c.args.base digits at c.loop-digit.number digit c.in_ok-number.number _ c.loop-digit-test.true (get_or_default digits at 0 digit c.loop-digit-test.true) c.in_ok-number.ensures
    c.loop-digit.invariant

pub returns-in_err-number : goal.returns-in_err-number
returns-in_err-number c =
    let digits = c.args.digits.now in
    let at = c.loop-digit.digit-index in
    let digit : ℕ = get_or digits at 0 in
    let none : None ≡ number_in c.args.base digits =
    number_none c.args.base digits at c.loop-digit.number digit _ c.loop-digit-test.true (get_or_default digits at 0 digit c.loop-digit-test.true) c.in_err-number.ensures c.loop-digit.invariant in
    cc

pub returns : goal.returns
returns c = number_done c.args.base c.args.digits.now c.loop-digit.digit-index c.loop-digit.number _ c.loop-digit-test.false c.loop-digit.invariant
