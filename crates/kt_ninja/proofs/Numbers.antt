-- The texts of numbers.
use Rattle.std.proofs.Common.{◌≡◌, ◌∙◌, ◌<◌, ℕ, zero, suc, ◌+◌, refl, sym, ap, map, eqb-true, arith, ◌^◌, Bool, false, ◌==◌, codes, decimal, if◌then◌else◌}
use Rattle.std.specs.Int.Digits.{digits_of}
use Rattle.std.proofs.lemmas.Fmt.{decimal_digit, decimal-digits_of}
use Rattle.kt_ninja.specs.Text.{number_text}

-- a number that follows another is not zero
not_zero : (n : ℕ) (b : Bool) → (suc n == 0) ≡ b → b ≡ false
not_zero n b e = grind (arith, eqb-true)

-- the text of any number but zero
pub number_more : (n : ℕ) → number_text (suc n) ≡ map (λ d. 48 + d) (digits_of 10 (suc n))
unfolding number_text
number_more n = ap (λ b. if b then codes "0" else map (λ d. 48 + d) (digits_of 10 (suc n))) (not_zero n (suc n == 0) refl)

-- the text of zero
pub number_zero : number_text 0 ≡ codes "0"
unfolding number_text
number_zero = refl

-- what is written for a number of 64 bits
pub number_decimal : (n : ℕ) → n < 2 ^ 64 → number_text n ≡ decimal n
number_decimal zero h = number_zero ∙ sym (decimal_digit 0 (omega arith))
number_decimal (suc n) h = number_more n ∙ sym (decimal-digits_of (suc n) (omega arith) h)
