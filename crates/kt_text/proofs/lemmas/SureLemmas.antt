-- Bytes that a look at sixteen at once passes over.
use Rattle.std.proofs.Common.{◌≡◌, ℕ, zero, suc, ◌+◌, ◌≤◌, Bool, true, false, not, cond, List, [], ◌∷◌, take, drop, refl, ap, ◌∙◌, arith, nat_le}
use Rattle.kt_text.proofs.Common.{position_or_len, prefix_len, leb-false, ne_eqb, not-true, is_separator}
use Rattle.kt_text.specs.inner.Sure.{is_sure}

module _ {A : Type 0} (sure : A → Bool) where
  -- of the first elements no more are passed than of all
  part_run : (count : ℕ) (xs : List A) → prefix_len sure (take count xs) ≤ prefix_len sure xs
  part_run zero xs = omega arith
  part_run (suc count) [] = omega arith
  part_run (suc count) (x ∷ xs) = grind (arith, take, cond, part_run count xs)

  pub run_on : (passed count : ℕ) (xs : List A) → passed ≤ prefix_len sure xs
      → passed + prefix_len sure (take count (drop passed xs)) ≤ prefix_len sure xs
  run_on zero count xs within = omega (arith, part_run count xs)
  run_on (suc passed) count [] within = absurd (omega (arith, within))
  run_on (suc passed) count (x ∷ xs) within = by (sure x) within (λ more. run_on passed count xs more)
    where
      by : (b : Bool) → suc passed ≤ cond b (1 + prefix_len sure xs) 0
          → (passed ≤ prefix_len sure xs → passed + prefix_len sure (take count (drop passed xs)) ≤ prefix_len sure xs)
          → suc passed + prefix_len sure (take count (drop passed xs)) ≤ cond b (1 + prefix_len sure xs) 0
      by true more later = let rest = later (omega (arith, more)) in omega (arith, rest)
      by false none later = absurd (omega (arith, none))

  -- what is passed has none of what is looked for
  pub found_past : (ends : A → Bool) → ((x : A) → sure x ≡ true → ends x ≡ false) → (passed : ℕ) (xs : List A) → passed ≤ prefix_len sure xs
      → position_or_len ends xs ≡ passed + position_or_len ends (drop passed xs)
  found_past ends none zero xs within = omega arith
  found_past ends none (suc passed) [] within = absurd (omega (arith, within))
  found_past ends none (suc passed) (x ∷ xs) within = by (sure x) refl within (λ more. found_past ends none passed xs more)
    where
      by : (b : Bool) → sure x ≡ b → suc passed ≤ cond b (1 + prefix_len sure xs) 0
          → (passed ≤ prefix_len sure xs → position_or_len ends xs ≡ passed + position_or_len ends (drop passed xs))
          → cond (not (ends x)) (1 + position_or_len ends xs) 0 ≡ suc passed + position_or_len ends (drop passed xs)
      by true is more later =
          let rest = later (omega (arith, more)) in
          ap (λ (b : Bool). cond (not b) (1 + position_or_len ends xs) 0) (none x is) ∙ omega (arith, rest)
      by false is past later = absurd (omega (arith, past))

-- no separator is beyond a space
pub sure_is_none : (byte : ℕ) → is_sure byte ≡ true → is_separator byte ≡ false
unfolding is_separator
sure_is_none byte sure = grind (arith, leb-false, not-true, nat_le, ne_eqb)
