-- Lists of which no element passes a test.
use Rattle.std.proofs.Common.{◌≡◌, ℕ, zero, suc, Bool, false, List, [], ◌∷◌, ◌++◌, take, drop, filter, find, None, refl, ◌∙◌, ⊎_elim}
use Rattle.kt_rules.proofs.Common.{list_any, cases_Bool, or_parts, list_any-append}

module _ {A : Type 0} (test : A → Bool) where
  pub none_more : (x : A) (xs : List A) → test x ≡ false → list_any test xs ≡ false → list_any test (x ∷ xs) ≡ false
  none_more x xs here rest = rw here rest

  pub none_kept : (keep : A → Bool) (xs : List A) → list_any test xs ≡ false → list_any test (filter keep xs) ≡ false
  none_kept keep [] none = refl
  none_kept keep (x ∷ xs) none =
      let parts = or_parts (test x) (list_any test xs) none in
      let rest = none_kept keep xs parts.1 in
      ⊎_elim (λ h. rw h (none_more x (filter keep xs) parts.0 rest)) (λ h. rw h rest) (cases_Bool (keep x))

  pub none_taken : (count : ℕ) (xs : List A) → list_any test xs ≡ false → list_any test (take count xs) ≡ false
  none_taken zero xs none = refl
  none_taken (suc count) [] none = refl
  none_taken (suc count) (x ∷ xs) none =
      let parts = or_parts (test x) (list_any test xs) none in
      none_more x (take count xs) parts.0 (none_taken count xs parts.1)

  pub none_left : (count : ℕ) (xs : List A) → list_any test xs ≡ false → list_any test (drop count xs) ≡ false
  none_left zero xs none = none
  none_left (suc count) [] none = refl
  none_left (suc count) (x ∷ xs) none = none_left count xs (or_parts (test x) (list_any test xs) none).1

  pub none_joined : (xs ys : List A) → list_any test xs ≡ false → list_any test ys ≡ false → list_any test (xs ++ ys) ≡ false
  none_joined xs ys none others = list_any-append test xs ys ∙ rw (none, others) refl

  pub none_found : (xs : List A) → list_any test xs ≡ false → find test xs ≡ None
  none_found [] none = refl
  none_found (x ∷ xs) none =
      let parts = or_parts (test x) (list_any test xs) none in
      rw parts.0 (none_found xs parts.1)

-- elements that pass a second test pass the first
pub none_of_fewer : {A : Type 0} (test fewer : A → Bool) (xs : List A) → ((x : A) → test x ≡ false → fewer x ≡ false)
    → list_any test xs ≡ false → list_any fewer xs ≡ false
none_of_fewer test fewer [] implies none = refl
none_of_fewer test fewer (x ∷ xs) implies none =
    let parts = or_parts (test x) (list_any test xs) none in
    none_more fewer x xs (implies x parts.0) (none_of_fewer test fewer xs implies parts.1)
