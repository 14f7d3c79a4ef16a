-- Elements of lists, and tests of all of them or of any.
use Rattle.std.proofs.Common.{arith, ◌≡◌, Bool, true, false, cond, ◌||◌, List, [], ◌∷◌, filter, Option, is_some, refl, sym, ap, ◌∙◌, subst, true≢false, ◌⊎◌, inl, inr, ⊎_elim}
use Rattle.kt_graph.proofs.Common.{Contains, list_all, list_any, find, option_or, and_parts, or_cases, first_or_rest, in_first, in_rest, none_in_empty}

module _ {X : Type 0} where
  -- a test that passes each element
  pub each_passes : (p : X → Bool) (xs : List X) → list_all p xs ≡ true → (x : X) → Contains xs x → p x ≡ true
  each_passes p [] h x c = absurd (none_in_empty x c)
  each_passes p (y ∷ xs) h x c =
      let parts = and_parts (p y) (list_all p xs) h in
      ⊎_elim (λ e. ap p (sym e) ∙ parts.0) (λ rest. each_passes p xs parts.1 x rest) (first_or_rest y x xs c)

  pub all_pass : (p : X → Bool) (xs : List X) → ((x : X) → Contains xs x → p x ≡ true) → list_all p xs ≡ true
  all_pass p [] h = refl
  all_pass p (y ∷ xs) h = rw (h y (in_first y xs)) (all_pass p xs (λ x c. h x (in_rest y x xs c)))

  -- a test that passes one element
  pub one_passes : (p : X → Bool) (xs : List X) → list_any p xs ≡ true → (x : X) × Contains xs x × (p x ≡ true)
  one_passes p [] h = absurd (true≢false (sym h))
  one_passes p (y ∷ xs) h = ⊎_elim (λ here. (y, in_first y xs, here)) (λ rest. later (one_passes p xs rest)) (or_cases (p y) (list_any p xs) h)
    where
      later : (x : X) × Contains xs x × (p x ≡ true) → (x : X) × Contains (y ∷ xs) x × (p x ≡ true)
      later found = (found.0, in_rest y found.0 xs found.1, found.2)

  pub any_passes : (p : X → Bool) (xs : List X) (x : X) → Contains xs x → p x ≡ true → list_any p xs ≡ true
  any_passes p [] x c h = absurd (none_in_empty x c)
  any_passes p (y ∷ xs) x c h = ⊎_elim (λ e. ap (λ b. b || list_any p xs) (ap p e ∙ h)) (λ rest. ap (λ b. p y || b) (any_passes p xs x rest h) ∙ by (p y)) (first_or_rest y x xs c)
    where
      by : (b : Bool) → (b || true) ≡ true
      by true = refl
      by false = refl

  -- something is found where a test passes one element
  pub found_any : (p : X → Bool) (xs : List X) → is_some (find p xs) ≡ list_any p xs
  found_any p [] = refl
  found_any p (x ∷ xs) = grind (arith, cond, found_any p xs)

  pub some_or : (one other : Option X) → is_some (option_or one other) ≡ (is_some one || is_some other)
  some_or one other = grind arith

  -- the elements that a filter keeps
  pub in_filter : (p : X → Bool) (xs : List X) (x : X) → Contains xs x → p x ≡ true → Contains (filter p xs) x
  in_filter p [] x c h = absurd (none_in_empty x c)
  in_filter p (y ∷ xs) x c h = by (p y) refl (first_or_rest y x xs c) (λ rest. in_filter p xs x rest h)
    where
      by : (b : Bool) → p y ≡ b → (y ≡ x) ⊎ Contains xs x → (Contains xs x → Contains (filter p xs) x) → Contains (cond b (y ∷ filter p xs) (filter p xs)) x
      by true e (inl same) later = subst (λ z. Contains (y ∷ filter p xs) z) same (in_first y (filter p xs))
      by true e (inr rest) later = in_rest y x (filter p xs) (later rest)
      by false e (inl same) later = absurd (true≢false (sym h ∙ ap p (sym same) ∙ e))
      by false e (inr rest) later = later rest

  pub kept_by_filter : (p : X → Bool) (xs : List X) (x : X) → Contains (filter p xs) x → Contains xs x × (p x ≡ true)
  kept_by_filter p [] x c = absurd (none_in_empty x c)
  kept_by_filter p (y ∷ xs) x c = by (p y) refl c (λ rest. (in_rest y x xs (kept_by_filter p xs x rest).0, (kept_by_filter p xs x rest).1))
    where
      by : (b : Bool) → p y ≡ b → Contains (cond b (y ∷ filter p xs) (filter p xs)) x → (Contains (filter p xs) x → Contains (y ∷ xs) x × (p x ≡ true))
          → Contains (y ∷ xs) x × (p x ≡ true)
      by true e kept later = ⊎_elim (λ same. (subst (λ z. Contains (y ∷ xs) z) same (in_first y xs), ap p (sym same) ∙ e)) later (first_or_rest y x (filter p xs) kept)
      by false e kept later = later kept
