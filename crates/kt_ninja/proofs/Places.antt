-- Lists by their places.
use Rattle.std.proofs.Common.{◌≡◌, ℕ, ◌+◌, ◌<◌, ◌≤◌, List, [], ◌∷◌, ◌++◌, length, take, drop, sym, ap, ◌∙◌, arith, zero, suc, Bool, true, false, ◌||◌, Some, find, slice_get, if◌then◌else◌}
use Rattle.kt_ninja.proofs.Common.{list_any, position_from, drop_all, drop_more, take_more}
use Rattle.std.proofs.lemmas.Option.{get_or_from_slice_get, slice_get_within}

-- the list from a place on is the item there, and the list from the next on
pub drop_at : {A : Type 0} (xs : List A) (i : ℕ) (x : A) → slice_get xs i ≡ Some x → drop i xs ≡ x ∷ drop (i + 1) xs
drop_at xs i x is = drop_more xs i x (slice_get_within xs i x is) ∙ ap (λ y. y ∷ drop (i + 1) xs) (get_or_from_slice_get xs i x x is)

-- the list up to the next place is that up to this one, and the item here
pub take_at : {A : Type 0} (xs : List A) (i : ℕ) (x : A) → slice_get xs i ≡ Some x → take (i + 1) xs ≡ take i xs ++ x ∷ []
take_at xs i x is = take_more xs i x (slice_get_within xs i x is) ∙ ap (λ y. take i xs ++ y ∷ []) (get_or_from_slice_get xs i x x is)

-- ---- the first item that passes a test, where it is looked for place by place

abbrev pub Looks : {A : Type 0} → (A → Bool) → List A → ℕ → Type 0
Looks p xs i = find p (drop i xs) ≡ find p xs

module _ {A : Type 0} (p : A → Bool) (xs : List A) (i : ℕ) (x : A) (is : slice_get xs i ≡ Some x) where
  found_by : (b : Bool) → p x ≡ b → find p (drop i xs) ≡ (if b then Some x else find p (drop (i + 1) xs))
  found_by b e = ap (find p) (drop_at xs i x is) ∙ ap (λ (c : Bool). if c then Some x else find p (drop (i + 1) xs)) e

  pub found_here : p x ≡ true → Looks p xs i → Some x ≡ find p xs
  found_here e so = sym (found_by true e) ∙ so

  pub found_later : p x ≡ false → Looks p xs i → Looks p xs (i + 1)
  found_later e so = sym (found_by false e) ∙ so

-- ---- the place of the first item that passes

abbrev pub LooksFor : {A : Type 0} → (A → Bool) → List A → ℕ → Type 0
LooksFor p xs i = position_from p i (drop i xs) ≡ position_from p 0 xs

module _ {A : Type 0} (p : A → Bool) (xs : List A) (i : ℕ) (x : A) (is : slice_get xs i ≡ Some x) where
  place_by : (b : Bool) → p x ≡ b → position_from p i (drop i xs) ≡ (if b then Some i else position_from p (i + 1) (drop (i + 1) xs))
  place_by b e = ap (position_from p i) (drop_at xs i x is)
      ∙ ap (λ (c : Bool). if c then Some i else position_from p (i + 1) (drop (i + 1) xs)) e

  pub place_here : p x ≡ true → LooksFor p xs i → Some i ≡ position_from p 0 xs
  place_here e so = sym (place_by true e) ∙ so

  pub place_later : p x ≡ false → LooksFor p xs i → LooksFor p xs (i + 1)
  place_later e so = sym (place_by false e) ∙ so

-- ---- whether one of so many items passes

-- the items before a place are the same ones in a longer list
pub item_before : {A : Type 0} (n : ℕ) (xs : List A) (i : ℕ) (x : A) → i < n → slice_get xs i ≡ Some x → slice_get (take n xs) i ≡ Some x
item_before zero xs i x below is = absurd (omega (arith, below))
item_before (suc n) [] i x below is = is
item_before (suc n) (y ∷ xs) zero x below is = is
item_before (suc n) (y ∷ xs) (suc i) x below is = item_before n xs i x (omega (arith, below)) is

abbrev pub Asks : {A : Type 0} → (A → Bool) → List A → ℕ → Type 0
Asks p xs i = list_any p (drop i xs) ≡ list_any p xs

module _ {A : Type 0} (p : A → Bool) (n : ℕ) (xs : List A) (i : ℕ) (x : A) (below : i < n) (is : slice_get xs i ≡ Some x) where
  passed_by : (b : Bool) → p x ≡ b → list_any p (drop i (take n xs)) ≡ (b || list_any p (drop (i + 1) (take n xs)))
  passed_by b e = ap (list_any p) (drop_at (take n xs) i x (item_before n xs i x below is))
      ∙ ap (λ (c : Bool). c || list_any p (drop (i + 1) (take n xs))) e

  pub passes_here : p x ≡ true → Asks p (take n xs) i → true ≡ list_any p (take n xs)
  passes_here e so = sym (passed_by true e) ∙ so

  pub passes_later : p x ≡ false → Asks p (take n xs) i → Asks p (take n xs) (i + 1)
  passes_later e so = sym (passed_by false e) ∙ so

taken_at_most : {A : Type 0} (n : ℕ) (xs : List A) → length (take n xs) ≤ n
taken_at_most zero xs = omega arith
taken_at_most (suc n) [] = omega arith
taken_at_most (suc n) (x ∷ xs) = omega (arith, taken_at_most n xs)

pub passes_none : {A : Type 0} (p : A → Bool) (n : ℕ) (xs : List A) (i : ℕ) → n ≤ i → Asks p (take n xs) i → false ≡ list_any p (take n xs)
passes_none p n xs i all so = ap (list_any p) (sym (drop_all i (take n xs) (omega (arith, all, taken_at_most n xs)))) ∙ so
