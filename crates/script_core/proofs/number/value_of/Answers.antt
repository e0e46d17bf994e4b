use Rattle.std.proofs.Common.{◌∙◌, arith}
use Rattle.script_core.proofs.Digits.{value_next, value_too_large, value_done, digit_at_place, digit_is}
use Rattle.script_core.proofs.number.value_of.Goals as goal

pub returns-in_err-checked_mul : goal.returns-in_err-checked_mul
returns-in_err-checked_mul c =
    c.from_residual.ensures ∙ value_too_large c.loop-digit.value c.args.digits.now c.loop-digit.digit-index _ c.loop-digit-test.true c.requires (omega (arith, c.in_err-checked_mul.ensures)) c.loop-digit.invariant.so_far

pub overflow_sub-digit : goal.overflow_sub-digit
overflow_sub-digit c = (digit_is _ (digit_at_place c.args.digits.now c.loop-digit.digit-index c.requires c.loop-digit-test.true)).1

pub returns-in_err-value : goal.returns-in_err-value
returns-in_err-value c =
    c.from_residual-in_err-value.ensures ∙ value_too_large c.loop-digit.value c.args.digits.now c.loop-digit.digit-index _ c.loop-digit-test.true c.requires (omega (arith, c.in_err-value.ensures, c.in_ok-checked_mul.ensures)) c.loop-digit.invariant.so_far

pub loop-digit-preserved : goal.loop-digit-preserved
loop-digit-preserved c = record {
  so_far = value_next c.loop-digit.value c.in_ok-value.value c.args.digits.now c.loop-digit.digit-index _ c.loop-digit-test.true c.requires (omega (arith, c.in_ok-value.ensures, c.in_ok-checked_mul.ensures)) c.loop-digit.invariant.so_far;
  fits = omega (arith, c.in_ok-value.ensures);
}

pub returns : goal.returns
returns c = value_done c.loop-digit.value c.args.digits.now c.loop-digit.digit-index _ c.loop-digit-test.false (omega arith) c.loop-digit.invariant.so_far
