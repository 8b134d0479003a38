use Rattle.std.proofs.Common.{◌≡◌, ◌<◌, length, Some, get_or, sym, ap, subst, ◌∙◌, arith, rules}
use Rattle.std.proofs.lemmas.Bool.Decides.{nat_tests}
use Rattle.std.specs.Char.{digit_value}
use Rattle.std.specs.Str.Parse.{AllDigits, digits_value}
use Rattle.std.proofs.lemmas.List.{take_all}
use Rattle.std.proofs.lemmas.Int.Digits.{digits_more, digits_value_more}
use Rattle.cm_text.proofs.Decimals.{no_digits, leading_zero, other_byte, too_large, whole_number}
use Rattle.cm_text.proofs.decimal.decimal_value.Goals as goal
use Rattle.cm_text.proofs.decimal.decimal_value.Goals.{else-branch-eq48-via-then-branch-eq48+else-word-gt1, else-branch-eq48-via-else-branch-eq48, then-tenth-n-via-then-tenth-n, then-tenth-n-via-else-tenth-n+then-most-n}

pub returns-in_err-first-clause-value : goal.returns-in_err-first-clause-value
returns-in_err-first-clause-value c = c.from_residual.ensures ∙ sym (no_digits c.args.most c.args.word.now (omega arith) (search rules))

pub returns-then-word-gt1-clause-value : goal.returns-then-word-gt1-clause-value
returns-then-word-gt1-clause-value c = sym (leading_zero c.args.most c.args.word.now (omega arith) (search rules) (omega arith))

pub returns-then-not-is_ascii_digit-clause-value : goal.returns-then-not-is_ascii_digit-clause-value
returns-then-not-is_ascii_digit-clause-value c =
    sym (other_byte c.args.most c.args.word.now c.loop-byte.byte-index (omega arith) c.loop-byte-test.true (λ range. grind (arith, nat_tests)))

pub returns-then-tenth-n-clause-value : goal.returns-then-tenth-n-clause-value
returns-then-tenth-n-clause-value c =
    let digit : digit_value (get_or c.args.word.now c.loop-byte.byte-index 0) ≡ c.from-digit.result = grind (arith, nat_tests) in
    sym (too_large c.args.most c.args.word.now c.loop-byte.byte-index c.loop-byte-test.true (
    elim c.then-tenth-n.branch [
      | then-tenth-n-via-then-tenth-n w ↦ omega (arith, c.loop-byte.invariant.0)
      | then-tenth-n-via-else-tenth-n+then-most-n w ↦ omega (arith, digit, c.loop-byte.invariant.0)
    ]))

pub loop-byte-preserved : goal.loop-byte-preserved
loop-byte-preserved c =
    let word = c.args.word.now in
    let digit : digit_value (get_or word c.loop-byte.byte-index 0) ≡ c.from-digit.result = grind (arith, nat_tests) in (
      omega (arith, digit, digits_value_more 10 word c.loop-byte.byte-index c.loop-byte-test.true, c.loop-byte.invariant.0),
      digits_more 10 word c.loop-byte.byte-index c.loop-byte-test.true c.loop-byte.invariant.1 (grind (arith, nat_tests)),
      omega arith,
    )

pub returns-clause-value : goal.returns-clause-value
returns-clause-value c =
    let word = c.args.word.now in
    let all = take_all c.loop-byte.byte-index word (omega arith) in
    let value : c.loop-byte.n ≡ digits_value 10 word = c.loop-byte.invariant.0 ∙ ap (digits_value 10) all in
    let some : 0 < length word = search rules in
    let lead : get_or word 0 0 ≡ 48 → length word ≡ 1 = λ zero. elim c.else-branch-eq48.branch [
      | else-branch-eq48-via-then-branch-eq48+else-word-gt1 w ↦ omega (arith, some)
      | else-branch-eq48-via-else-branch-eq48 w ↦ absurd (search rules)
    ] in
    let read = whole_number c.args.most word (omega arith) (subst (AllDigits 10) all c.loop-byte.invariant.1) some lead (omega (arith, value)) in
    ap Some value ∙ sym read
