-- What lists contain.
use Rattle.std.proofs.Common.{◌≡◌, ℕ, zero, suc, ⊎_elim, List, [], ◌∷◌, map, Some, slice_get, ap, subst}
use Rattle.kt_graph.proofs.Common.{Contains, none-some, same_Some, first_or_rest, in_first, in_rest, none_in_empty}

pub Contains-none : {A : Type 0} {B : Type 0} (x : A) → Contains [] x → B
Contains-none x h = absurd (none_in_empty x h)

pub Contains-map : {A B : Type 0} (f : A → B) (xs : List A) (x : A) → Contains xs x → Contains (map f xs) (f x)
Contains-map f [] x h = Contains-none x h
Contains-map {A} f (y ∷ ys) x h = ⊎_elim
    (λ (e : y ≡ x). subst (λ (z : A). Contains (f y ∷ map f ys) (f z)) e (in_first (f y) (map f ys)))
    (λ (g : Contains ys x). in_rest (f y) (f x) (map f ys) (Contains-map f ys x g))
    (first_or_rest y x ys h)

-- each result of a map comes from an element
pub Contains-from_map : {A B : Type 0} (f : A → B) (xs : List A) (y : B) → Contains (map f xs) y → (x : A) × Contains xs x × (f x ≡ y)
Contains-from_map f [] y h = Contains-none y h
Contains-from_map {A} f (x ∷ xs) y h = ⊎_elim
    (λ (e : f x ≡ y). (x, in_first x xs, e))
    (λ (g : Contains (map f xs) y).
    let from : (z : A) × Contains xs z × (f z ≡ y) = Contains-from_map f xs y g in
    (from.0, in_rest x from.0 xs from.1, from.2))
    (first_or_rest (f x) y (map f xs) h)

-- between a place and an element
pub Contains-slice_get : {A : Type 0} (xs : List A) (k : ℕ) (x : A) → slice_get xs k ≡ Some x → Contains xs x
Contains-slice_get [] k x e = absurd (none-some x e)
Contains-slice_get {A} (y ∷ ys) zero x e = subst (λ (z : A). Contains (y ∷ ys) z) (same_Some y x e) (in_first y ys)
Contains-slice_get (y ∷ ys) (suc k) x e = in_rest y x ys (Contains-slice_get ys k x e)

pub slice_get-Contains : {A : Type 0} (xs : List A) (x : A) → Contains xs x → (k : ℕ) × (slice_get xs k ≡ Some x)
slice_get-Contains [] x h = Contains-none x h
slice_get-Contains {A} (y ∷ ys) x h = ⊎_elim
    (λ (e : y ≡ x). (0, ap (λ (z : A). Some z) e))
    (λ (g : Contains ys x). let at : (k : ℕ) × (slice_get ys k ≡ Some x) = slice_get-Contains ys x g in (suc at.0, at.1))
    (first_or_rest y x ys h)
