-- Numbers.
use Rattle.std.proofs.Common.{◌≡◌, ℕ, suc, ◌+◌, ◌%◌, ◌==◌, not, ⊎_elim, arith}
use Rattle.std.proofs.lemmas.Bool.{cases_Bool, eq-eqb, eqb-true, false_from_ne_true, false≢true}

pub suc_sum : (a b : ℕ) → suc (a + b) ≡ suc a + b
suc_sum a b = omega arith

pub one_more_odd : (n : ℕ) → ((1 + n) % 2 == 1) ≡ not (n % 2 == 1)
one_more_odd n = grind (arith, ⊎_elim, eqb-true, false_from_ne_true, eq-eqb, false≢true, cases_Bool)
