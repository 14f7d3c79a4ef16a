-- Places in lists, and how lists begin.
use Rattle.std.proofs.Common.{◌≡◌, List, [], ◌∷◌, ◌++◌}

pub none_in : {A : Type 0} (x : A) (front back : List A) → [] ≡ front ++ x ∷ back → ⊥
none_in x [] back h = cc
none_in x (y ∷ front) back h = cc

pub tail_is : {A : Type 0} (x y : A) (xs ys : List A) → x ∷ xs ≡ y ∷ ys → xs ≡ ys
tail_is x y xs ys h = cc
