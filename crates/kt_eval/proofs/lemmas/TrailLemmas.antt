-- That a list begins with another one, by how many texts don't stand at their place in it.
use Rattle.std.proofs.Common.{◌≡◌, ℕ, zero, suc, ◌≤◌, List, [], ◌∷◌, ◌++◌, length, take, refl, arith}
use Rattle.kt_eval.proofs.Common.{Text, IsPrefix, World, StepEnd, left_of, GoesOn, told, asked_for, astray, bytes_eq-Decides}
use Rattle.kt_eval.specs.views.Growing.{Grows}
use Rattle.kt_eval.proofs.lemmas.GrowingLemmas.{front_more}

tail_front : (x y : Text) (xs ys : List Text) → IsPrefix (x ∷ xs) (y ∷ ys) → IsPrefix xs ys
tail_front x y xs ys p = (omega (arith, p.0), λ count le. cc (p.1 (suc count) (omega (arith, le))))

head_same : (x y : Text) (xs ys : List Text) → IsPrefix (x ∷ xs) (y ∷ ys) → x ≡ y
head_same x y xs ys p = cc (p.1 (suc zero) (omega arith))

none_first : (ys : List Text) → IsPrefix {A = Text} [] ys
none_first ys = (omega arith, λ count le. let none : count ≡ zero = omega (arith, le) in rw none refl)

-- a longer list with the same beginning has no more of them
pub fewer : (texts xs ys : List Text) → IsPrefix xs ys → astray texts ys ≤ astray texts xs
unfolding astray
fewer [] xs ys p = omega arith
fewer (t ∷ texts) [] [] p = omega arith
fewer (t ∷ texts) [] (y ∷ ys) p = grind (arith, fewer texts [] ys (none_first ys))
fewer (t ∷ texts) (x ∷ xs) [] p = absurd (omega (arith, p.0))
fewer (t ∷ texts) (x ∷ xs) (y ∷ ys) p = grind (arith, head_same x y xs ys p, fewer texts xs ys (tail_front x y xs ys p))

pub longer : (texts xs ys : List Text) → astray texts (xs ++ ys) ≤ astray texts xs
longer texts xs ys = fewer texts xs (xs ++ ys) (front_more xs ys)

none_astray : (xs : List Text) → astray xs xs ≡ zero
unfolding astray
none_astray [] = refl
none_astray (x ∷ xs) = grind (arith, bytes_eq-Decides, none_astray xs)

as_far : (x y : Text) (xs ys : List Text) → x ≡ y → IsPrefix xs ys → (count : ℕ) → count ≤ suc (length xs) → take count (y ∷ ys) ≡ take count (x ∷ xs)
as_far x y xs ys e p zero le = refl
as_far x y xs ys e p (suc count) le = cc (e, p.1 count (omega (arith, le)))

found : (xs ys : List Text) → astray xs ys ≡ zero → IsPrefix xs ys
unfolding astray
found [] ys h = none_first ys
found (x ∷ xs) [] h = absurd (omega (arith, h))
found (x ∷ xs) (y ∷ ys) h =
    let p = found xs ys (omega (arith, h)) in
    let e : x ≡ y = grind (arith, bytes_eq-Decides, h) in
    (omega (arith, p.0), as_far x y xs ys e p)

-- a list in which no more of any texts stand astray begins with the other one
pub front_of : (xs ys : List Text) → ((texts : List Text) → astray texts ys ≤ astray texts xs) → IsPrefix xs ys
front_of xs ys h = found xs ys (omega (arith, h xs, none_astray xs))

-- both lists of a world, as both grow
pub goes_on : (v w : World) → Grows v w → GoesOn v w
goes_on v w g told texts = fewer texts v.said w.said g.0
goes_on v w g asked_for texts = fewer texts v.asked w.asked g.1

pub grown : {A : Type 0} (w : World) (o : StepEnd World A) → Grows w (left_of o) → GoesOn w (left_of o)
grown w o g = goes_on w (left_of o) g
