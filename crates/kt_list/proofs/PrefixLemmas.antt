-- Lists that begin with another one.
use Rattle.std.proofs.Common.{◌≡◌, ℕ, zero, suc, List, [], ◌∷◌, ◌++◌, Some, slice_get, arith, append_assoc}
use Rattle.kt_list.specs.views.Prefixes.{HasMore}

pub slice_get-left : {A : Type 0} (xs ys : List A) (n : ℕ) (x : A) → slice_get xs n ≡ Some x → slice_get (xs ++ ys) n ≡ Some x
slice_get-left [] ys n x h = cc
slice_get-left (y ∷ xs) ys zero x h = h
slice_get-left (y ∷ xs) ys (suc n) x h = slice_get-left xs ys n x h

pub has_more_of_more : {A : Type 0} (xs ys zs : List A) → HasMore xs ys → HasMore ys zs → HasMore xs zs
has_more_of_more {A} xs ys zs first second = grind (arith, append_assoc)
