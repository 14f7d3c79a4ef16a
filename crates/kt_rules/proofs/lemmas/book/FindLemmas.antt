-- Searches, and names added after others.
use Rattle.std.proofs.Common.{arith, ◌≡◌, ℕ, Bool, true, false, cond, if◌then◌else◌, List, [], ◌∷◌, ◌++◌, fold, find, filter, map, take, length, ◌&&◌, Option, Some, None, refl, sym, ap, ◌∙◌}
use Rattle.kt_rules.proofs.Common.{append-nil, append_assoc, Text, with_name}

one_grows : (names : List Text) (name : Text) (b : Bool) → (more : List Text) × ((if b then names else names ++ name ∷ []) ≡ names ++ more)
one_grows names name true = ([], sym (append-nil names))
one_grows names name false = (name ∷ [], refl)

-- added names are after the others
pub names_grow : (names added : List Text) → (more : List Text) × (fold with_name names added ≡ names ++ more)
names_grow names [] = ([], sym (append-nil names))
names_grow names (name ∷ added) = grind (arith, one_grows, append_assoc, names_grow (with_name names name) added)

take_front : (xs ys : List Text) → take (length xs) (xs ++ ys) ≡ xs
take_front [] ys = refl
take_front (x ∷ xs) ys = ap (λ zs. x ∷ zs) (take_front xs ys)

-- the names without those that were added
pub take_grown : (names added new : List Text) (count : ℕ) → count ≡ length names → new ≡ fold with_name names added → take count new ≡ names
take_grown names added new count e grown =
    let more = names_grow names added in
    ap (λ n. take n new) e ∙ ap (take (length names)) (grown ∙ more.1) ∙ take_front names more.0

-- the same for the rest of a list
pub find_left : {A : Type 0} (made test : A → Bool) (left rest : List A) (x : A) (b : Bool) → left ≡ x ∷ rest → b ≡ (made x && test x)
    → find test (filter made left) ≡ cond b (Some x) (find test (filter made rest))
find_left made test left rest x b is told = grind (arith, cond)

pub filter_left : {A B : Type 0} (made test : A → Bool) (f : A → B) (left rest : List A) (x : A) → left ≡ x ∷ rest
    → map f (filter test (filter made left)) ≡ (if made x && test x then f x ∷ [] else []) ++ map f (filter test (filter made rest))
filter_left made test f left rest x is = grind (arith, cond)

pub some_none : {A : Type 0} (x : A) → Some x ≡ None → ⊥
some_none x h = cc

-- where nothing is found
pub find_none : {A : Type 0} (b : Bool) (x : A) (rest : Option A) → cond b (Some x) rest ≡ None → (b ≡ false) × (rest ≡ None)
find_none b x rest h = grind (arith, some_none)
