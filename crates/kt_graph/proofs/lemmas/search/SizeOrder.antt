-- A list that is sorted stably by a number: what has the least number first, and in its old order.
use Rattle.std.proofs.Common.{◌≡◌, ℕ, suc, zero, ◌+◌, ◌<◌, ◌≤◌, true, false, ◌==◌, List, [], ◌∷◌, ◌++◌, get_or, filter, nat_le, refl, sym, ap, ◌∙◌, arith, ⊎_elim, All, add-zero}
use Rattle.kt_graph.proofs.Common.{AllByRecursion, flat_map, range_with_len, IsNonDecreasingBy, IsStableByKey, ties, nat_cmp, is_lt, cases_lt, cases_eq, eqb-true, append_assoc, append-nil, recursion_from_All, All-head, All-tail, filter_passes, filter_agree}
use Rattle.std.proofs.lemmas.Bool.Decides.{nat_tests}

-- what has a number
abbrev pub bucket : {X : Type 0} → (X → ℕ) → List X → ℕ → List X
bucket key xs n = filter (λ x. key x == n) xs

-- what has that number or a greater one
abbrev upward : {X : Type 0} → (X → ℕ) → List X → ℕ → List X
upward key xs n = filter (λ x. nat_le n (key x)) xs

-- none has a number below that of one before it
abbrev Rises : {X : Type 0} → (X → ℕ) → List X → Type 0
Rises key [] = Unit {0}
Rises key (x ∷ xs) = AllByRecursion (λ y. key x ≤ key y) xs × Rises key xs

rises : {X : Type 0} (key : X → ℕ) (xs : List X) → IsNonDecreasingBy key xs → Rises key xs
rises key [] h = tt
rises key (x ∷ xs) h = (
  recursion_from_All (λ y. key x ≤ key y) xs (λ k d l. h 0 (suc k) d (omega arith) (omega arith)),
  rises key xs (λ i j d before within. h (suc i) (suc j) d (omega arith) (omega arith)),
)

none_of : {X : Type 0} (key : X → ℕ) (xs : List X) (least n : ℕ) → n < least → AllByRecursion (λ y. least ≤ key y) xs → bucket key xs n ≡ []
none_of key [] least n below all = refl
none_of key (x ∷ xs) least n below all =
    let differs : (key x == n) ≡ false = grind (arith, nat_tests) in
    rw differs (none_of key xs least n below all.1)

-- what has a number comes first
upward-step : {X : Type 0} (key : X → ℕ) (xs : List X) (n : ℕ) → Rises key xs → upward key xs n ≡ bucket key xs n ++ upward key xs (n + 1)
upward-step key [] n up = refl
upward-step key (x ∷ xs) n up =
    ⊎_elim
    (λ (l : key x < n).
    let e : nat_le n (key x) ≡ false = grind (arith, nat_tests) in
    let f : (key x == n) ≡ false = grind (arith, nat_tests) in
    let g : nat_le (n + 1) (key x) ≡ false = grind (arith, nat_tests) in
    rw (e, f, g) (upward-step key xs n up.1))
    (λ (l : n ≤ key x). ⊎_elim
    (λ (same : key x ≡ n).
    let e : nat_le n (key x) ≡ true = grind (arith, nat_tests) in
    let f : (key x == n) ≡ true = grind (arith, nat_tests) in
    let g : nat_le (n + 1) (key x) ≡ false = grind (arith, nat_tests) in
    rw (e, f, g) (ap (λ rest. x ∷ rest) (upward-step key xs n up.1)))
    (λ differ.
    let e : nat_le n (key x) ≡ true = grind (arith, nat_tests) in
    let f : (key x == n) ≡ false = grind (arith, nat_tests) in
    let g : nat_le (n + 1) (key x) ≡ true = grind (arith, nat_tests) in
    let none : bucket key xs n ≡ [] = none_of key xs (key x) n (omega arith) up.0 in
    rw (e, f, g, none) (ap (λ rest. x ∷ rest) (upward-step key xs n up.1 ∙ ap (λ front. front ++ upward key xs (n + 1)) none)))
    (cases_eq (key x) n))
    (cases_lt (key x) n)

upward-range : {X : Type 0} (key : X → ℕ) (xs : List X) (n count : ℕ) → Rises key xs
    → upward key xs n ≡ flat_map (bucket key xs) (range_with_len n count) ++ upward key xs (n + count)
upward-range key xs n zero up = ap (upward key xs) (sym (add-zero n))
upward-range key xs n (suc count) up = grind (arith, upward-step, append_assoc, upward-range key xs (n + 1) count up)

upward-all : {X : Type 0} (key : X → ℕ) (xs : List X) → upward key xs 0 ≡ xs
upward-all key [] = refl
upward-all key (x ∷ xs) = let e : nat_le 0 (key x) ≡ true = grind (arith, nat_tests) in rw e (ap (λ rest. x ∷ rest) (upward-all key xs))

upward-none : {X : Type 0} (key : X → ℕ) (xs : List X) (n : ℕ) → All (λ x. key x < n) xs → upward key xs n ≡ []
upward-none key [] n below = refl
upward-none key (x ∷ xs) n below =
    let first : key x < n = All-head (λ y. key y < n) x xs below in
    let e : nat_le n (key x) ≡ false = grind (arith, nat_tests) in
    rw e (upward-none key xs n (All-tail (λ y. key y < n) x xs below))

-- a sorted list is its buckets
pub in_buckets : {X : Type 0} (key : X → ℕ) (xs : List X) (n : ℕ) → IsNonDecreasingBy key xs → All (λ x. key x < n) xs
    → xs ≡ flat_map (bucket key xs) (range_with_len 0 n)
in_buckets key xs n sorted below =
    sym (upward-all key xs)
    ∙ upward-range key xs 0 n (rises key xs sorted)
    ∙ ap (λ rest. flat_map (bucket key xs) (range_with_len 0 n) ++ rest) (ap (upward key xs) (omega arith) ∙ upward-none key xs n below)
    ∙ append-nil (flat_map (bucket key xs) (range_with_len 0 n))

in_bucket : {X : Type 0} (key : X → ℕ) (xs : List X) (n : ℕ) (x : X) (rest : List X) → bucket key xs n ≡ x ∷ rest → key x ≡ n
in_bucket key xs n x rest e =
    let passes : (key (get_or (bucket key xs n) 0 x) == n) ≡ true = filter_passes (λ y. key y == n) xs 0 x (rw e (omega arith)) in
    eqb-true (key x) n (rw e at passes)

ties_of : {X : Type 0} (key : X → ℕ) (n : ℕ) (x y : X) → key x ≡ n → (key y == n) ≡ ties (λ a b. is_lt (nat_cmp (key a) (key b))) x y
ties_of key n x y is = grind (arith, nat_tests)

kept_bucket : {X : Type 0} (key : X → ℕ) (xs ys : List X) → IsStableByKey key nat_cmp xs ys → (n : ℕ) (x : X) → key x ≡ n → bucket key ys n ≡ bucket key xs n
kept_bucket key xs ys stable n x is =
    filter_agree (λ y. key y == n) (ties (λ a b. is_lt (nat_cmp (key a) (key b))) x) (λ y. ties_of key n x y is) ys
    ∙ stable x
    ∙ sym (filter_agree (λ y. key y == n) (ties (λ a b. is_lt (nat_cmp (key a) (key b))) x) (λ y. ties_of key n x y is) xs)

either_bucket : {X : Type 0} (key : X → ℕ) (xs ys : List X) → IsStableByKey key nat_cmp xs ys → (n : ℕ) (old new : List X)
    → bucket key xs n ≡ old → bucket key ys n ≡ new → bucket key ys n ≡ bucket key xs n
either_bucket key xs ys stable n [] [] e f = f ∙ sym e
either_bucket key xs ys stable n (x ∷ old) new e f = kept_bucket key xs ys stable n x (in_bucket key xs n x old e)
either_bucket key xs ys stable n [] (y ∷ new) e f = kept_bucket key xs ys stable n y (in_bucket key ys n y new f)

-- a stable sort keeps what has a number, and its order
pub same_buckets : {X : Type 0} (key : X → ℕ) (xs ys : List X) → IsStableByKey key nat_cmp xs ys → (n : ℕ) → bucket key ys n ≡ bucket key xs n
same_buckets key xs ys stable n = either_bucket key xs ys stable n (bucket key xs n) (bucket key ys n) refl refl
