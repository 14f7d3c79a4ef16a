use Rattle.std.proofs.Common.{◌≡◌, ◌+◌, ◌*◌, ◌^◌, add-one, pow-suc, arith}
use Rattle.std.proofs.Math.Nat.{pow-le-pow_right}
use Rattle.std.proofs.lemmas.Int.Digits.{digits_value_more}
use Rattle.kt_text.proofs.functions.number.digits_value.Goals as goal

pub overflow_mul-value : goal.overflow_mul-value
overflow_mul-value c = grind (arith, pow-le-pow_right)

pub overflow_add-value : goal.overflow_add-value
overflow_add-value c = grind (arith, pow-le-pow_right)

pub loop-digit-preserved : goal.loop-digit-preserved
loop-digit-preserved c =
    let more = digits_value_more 10 c.args.digits.now c.loop-digit.digit-index c.loop-digit-test.true in
    let ten : 10 ^ (c.loop-digit.digit-index + 1) ≡ 10 ^ c.loop-digit.digit-index * 10 = rw add-one (pow-suc 10 c.loop-digit.digit-index) in
    record { value = (cc); small = omega (arith, ten, c.loop-digit.invariant.small, c.digit_value.ensures.small) }
