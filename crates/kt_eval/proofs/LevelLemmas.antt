-- The levels, one above the other.
use Rattle.std.proofs.Common.{◌≡◌, ℕ, zero, suc, ◌-◌, ◌<◌, Bool, ap, refl, sym, arith}
use Rattle.kt_eval.proofs.Common.{Store, evaluator, above, none_left}

-- what the levels are made of, opened under one name
unfoldable pub opened : Unit {0}
unfolding evaluator none_left above
opened = tt

-- a level is the one above that below it
pub evaluator_above : (reads : Bool) (store : Store) (n : ℕ) → 0 < n → evaluator reads store n ≡ above store (evaluator reads store (n - 1))
unfolding evaluator
evaluator_above reads store zero h = absurd (omega arith)
evaluator_above reads store (suc n) h = let e : suc n - 1 ≡ n = omega arith in ap (λ m. above store (evaluator reads store m)) (sym e)

-- each level reads lines, or none does
pub evaluator_reads : (reads : Bool) (store : Store) (n : ℕ) → (evaluator reads store n).reads ≡ reads
unfolding evaluator above none_left
evaluator_reads reads store zero = refl
evaluator_reads reads store (suc n) = evaluator_reads reads store n
