-- Rows by their numbers.
use Rattle.std.proofs.Common.{rules, ◌≡◌, ℕ, ◌<◌, Bool, true, false, cond, nat_lt, List, [], ◌∷◌, ◌++◌, length, take, get_or, Option, Some, None, is_some, slice_get, sym, ap, ◌∙◌, refl, arith, IfSome, IfNone, if◌then◌else◌}
use Rattle.std.proofs.lemmas.List.{map-append, take-map}
use Rattle.indexmap.proofs.MapLemmas.{distinct-take}
use Rattle.std.specs.List.{IsDistinct, position_or_len}
use Rattle.std.specs.Str.{bytes_eq}
use Rattle.std.proofs.lemmas.Bool.{false≢true, false_from_ne_true, lt-ltb}
use Rattle.std.proofs.lemmas.Option.{slice_get-get_or, slice_get-map, slice_get_within, get_or_from_slice_get}
use Rattle.std.proofs.lemmas.Slice.Eq.{bytes_eq-Decides}
use Rattle.std.proofs.lemmas.List.Folds.{Any-from_list_any}
use Rattle.std.proofs.lemmas.List.Sums.{position_or_len_is}
use Rattle.std.proofs.lemmas.Map.Keys.{apart_from_distinct, any_passes_from_place, IsDistinct-from_apart, IsDistinct-push}
use Rattle.kt_list.proofs.NameLemmas.{number_found}
use Rattle.kt_list.specs.Names.{is_among, with_name}
use Rattle.kt_list.specs.views.Names.{place_of}
use Rattle.kt_list.specs.inner.HashChains.{AreRowsOnce}
use Rattle.kt_list.specs.inner.Hashes.{is_at}

-- ---- an element at the end

pub last_pushed : {A : Type 0} (xs : List A) (x : A) → slice_get (xs ++ x ∷ []) (length xs) ≡ Some x
last_pushed [] x = refl
last_pushed (y ∷ xs) x = last_pushed xs x

-- ---- the place of a list

module _ (lists : List (List ℕ)) (list : List ℕ) where
  pub among : (n : ℕ) → slice_get lists n ≡ Some list → is_among lists list ≡ true
  among n at = any_passes_from_place (bytes_eq list) lists n list at ((bytes_eq-Decides list list).1 refl)

  pub placed : (n : ℕ) → IsDistinct bytes_eq lists → slice_get lists n ≡ Some list → place_of lists list ≡ Some n
  placed n differ at =
      let within : n < length lists = slice_get_within lists n list at in
      let here : get_or lists n list ≡ list = get_or_from_slice_get lists n list list at in
      let apart = λ (k : ℕ) (less : k < n). false_from_ne_true (bytes_eq list (get_or lists k list))
      (λ yes. false≢true (sym (apart_from_distinct bytes_eq lists k n list differ less within)
      ∙ (bytes_eq-Decides (get_or lists k list) (get_or lists n list)).1
      (sym ((bytes_eq-Decides list (get_or lists k list)).0 yes) ∙ sym here))) in
      let first : position_or_len (bytes_eq list) lists ≡ n =
      position_or_len_is (bytes_eq list) lists n list (omega (arith, within)) apart
      (λ _. (bytes_eq-Decides list (get_or lists n list)).1 (sym here)) in
      ap (λ (place : ℕ). cond (nat_lt place (length lists)) (Some place) None) first
      ∙ ap (λ (b : Bool). cond b (Some n) None) (lt-ltb n (length lists) within)

  pub not_among : ((place : ℕ) → slice_get lists place ≡ Some list → ⊥) → is_among lists list ≡ false
  not_among none = grind (arith, false_from_ne_true, Any-from_list_any, slice_get-get_or, bytes_eq-Decides)

  none_or : ((place : ℕ) → slice_get lists place ≡ Some list → ⊥) → (o : Option ℕ) → place_of lists list ≡ o → place_of lists list ≡ None
  none_or none None h = h
  none_or none (Some n) h = absurd (none n (number_found lists list n h))

  pub not_placed : ((place : ℕ) → slice_get lists place ≡ Some list → ⊥) → place_of lists list ≡ None
  not_placed none = none_or none (place_of lists list) refl

-- ---- one more

module _ (lists : List (List ℕ)) (list : List ℕ) where
  pub stays : is_among lists list ≡ true → lists ≡ with_name lists list
  stays old = sym (ap (λ (b : Bool). if b then lists else (lists ++ list ∷ [])) old)

  pub adds : is_among lists list ≡ false → lists ++ list ∷ [] ≡ with_name lists list
  adds new = sym (ap (λ (b : Bool). if b then lists else (lists ++ list ∷ [])) new)

-- ---- a look-up

module _ (hash_of : List ℕ → ℕ) (rows : List (List ℕ)) (hashes : List ℕ) (row : List ℕ) (are : AreRowsOnce hash_of rows hashes) where
  hash_at : (place : ℕ) (hash : ℕ) → slice_get rows place ≡ Some row → hash ≡ hash_of row → slice_get hashes place ≡ Some hash
  hash_at place hash at is = grind (arith, slice_get-map)

  pub nowhere : (hash : ℕ) → hash ≡ hash_of row
      → ((place : ℕ) → slice_get hashes place ≡ Some hash → is_at rows row place ≡ false)
      → (place : ℕ) → slice_get rows place ≡ Some row → ⊥
  nowhere hash is lacks place at = grind (arith, false≢true, hash_at, bytes_eq-Decides)

  pub lacking : (hash : ℕ) → hash ≡ hash_of row
      → ((place : ℕ) → slice_get hashes place ≡ Some hash → is_at rows row place ≡ false) → is_among rows row ≡ false
  lacking hash is lacks = not_among rows row (nowhere hash is lacks)

  pub number_is : (hash : ℕ) → hash ≡ hash_of row → (result : Option ℕ) → IfSome result (λ n. slice_get rows n ≡ Some row)
      → IfNone result ((place : ℕ) → slice_get hashes place ≡ Some hash → is_at rows row place ≡ false)
      → result ≡ place_of rows row
  number_is hash is result found lacks = grind (arith, not_placed, nowhere, placed)

  pub number_if : (hash : ℕ) → hash ≡ hash_of row → (result : Option ℕ) → IfSome result (λ n. slice_get rows n ≡ Some row)
      → IfNone result ((place : ℕ) → slice_get hashes place ≡ Some hash → is_at rows row place ≡ false)
      → is_some result ≡ is_among rows row
  number_if hash is result found lacks = grind (arith, lacking, among)

-- ---- one more row

pub none_once : (hash_of : List ℕ → ℕ) (rows : List (List ℕ)) (hashes : List ℕ) → rows ≡ [] → hashes ≡ [] → AreRowsOnce hash_of rows hashes
none_once hash_of rows hashes none no_hash = grind (arith, IsDistinct-from_apart)

pub one_more : (hash_of : List ℕ → ℕ) (rows rows' : List (List ℕ)) (hashes hashes' : List ℕ) (row : List ℕ) (hash : ℕ)
    → AreRowsOnce hash_of rows hashes → is_among rows row ≡ false → hash ≡ hash_of row → rows' ≡ rows ++ row ∷ []
    → hashes' ≡ hashes ++ hash ∷ [] → AreRowsOnce hash_of rows' hashes'
one_more hash_of rows rows' hashes hashes' row hash are new is grew more = search (rules, map-append, IsDistinct-push)

pub fewer : (hash_of : List ℕ → ℕ) (rows rows' : List (List ℕ)) (hashes hashes' : List ℕ) (len : ℕ) → AreRowsOnce hash_of rows hashes
    → rows' ≡ take len rows → hashes' ≡ take len hashes → AreRowsOnce hash_of rows' hashes'
fewer hash_of rows rows' hashes hashes' len are less hashed = search (rules, take, take-map, distinct-take)
