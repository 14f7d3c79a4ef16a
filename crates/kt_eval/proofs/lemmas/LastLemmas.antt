-- The last element of a list.
use Rattle.std.proofs.Common.{◌≡◌, ◌+◌, ◌-◌, List, [], ◌∷◌, ◌++◌, length, length-append, Some, arith}
use Rattle.kt_eval.proofs.Common.{last}
use Rattle.kt_list.proofs.ListLemmas.{last_pushed}

place : {A : Type 0} (xs : List A) (x : A) → length (xs ++ x ∷ []) - 1 ≡ length xs
place {A} xs x = let e : length (xs ++ x ∷ []) ≡ length xs + 1 = length-append xs (x ∷ []) in omega (arith, e)

pub last_after : {A : Type 0} (xs : List A) (x : A) → last (xs ++ x ∷ []) ≡ Some x
unfolding last
last_after xs x = rw (place xs x) (last_pushed xs x)
