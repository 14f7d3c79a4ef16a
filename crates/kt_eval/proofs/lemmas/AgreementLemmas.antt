-- What one answer more says of the stores that agree.
use Rattle.std.proofs.Common.{◌≡◌, ◌≤◌, ◌+◌, ℕ, ap, refl, arith, List, [], ◌∷◌, ◌++◌, Bool, true, false, Option, Some, None, if◌then◌else◌}
use Rattle.kt_eval.proofs.Common.{bytes_eq-Decides, Answer, Store, absent, differing, look, same_found}

-- 1 for an answer that isn't the store's
abbrev pub off : Store → Answer → ℕ
off store answer = if same_found (look store answer.0) answer.1 then 0 else 1

one_answer : (store : Store) (old : List Answer) (answer : Answer)
    → differing store (old ++ answer ∷ []) ≡ differing store old + off store answer
unfolding differing
one_answer store [] answer = omega arith
one_answer store (first ∷ old) answer = omega (arith, one_answer store old answer)

-- with one answer more no fewer differ
pub no_fewer : (store : Store) (old : List Answer) (answer : Answer) → differing store old ≤ differing store (old ++ answer ∷ [])
no_fewer store old answer = omega (arith, one_answer store old answer)

same : (found answered : Option (List ℕ)) → same_found found answered ≡ true → found ≡ answered
same None None is = refl
same None (Some answered) is = cc
same (Some bytes) None is = cc
same (Some bytes) (Some answered) is = ap Some ((bytes_eq-Decides bytes answered).0 is)

decided : (b : Bool) → ◌≡◌ {A = ℕ} (if b then 0 else 1) 0 → b ≡ true
decided true is = refl
decided false is = absurd (omega (arith, is))

pub held_by : (store : Store) (answer : Answer) → off store answer ≡ 0 → look store answer.0 ≡ answer.1
held_by store answer none = same (look store answer.0) answer.1 (decided (same_found (look store answer.0) answer.1) none)

-- a store that agrees holds what was answered last
pub last_held : (store : Store) (old : List Answer) (name : List ℕ) (found : Option (List ℕ)) → differing store (old ++ (name, found) ∷ []) ≡ 0
    → look store name ≡ found
last_held store old name found agrees = held_by store (name, found) (omega (arith, one_answer store old (name, found)))

-- where there is no file, no store is needed
pub absent_agree : (names : List (List ℕ)) → differing [] (absent names) ≡ 0
unfolding differing
absent_agree [] = refl
absent_agree (name ∷ names) = omega (arith, absent_agree names)
