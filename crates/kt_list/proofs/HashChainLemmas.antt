-- Numbers in chains.
use Rattle.std.proofs.Common.{◌≡◌, ◌⊎◌, inl, inr, ⊎_elim, ℕ, zero, suc, ◌+◌, ◌-◌, ◌*◌, ◌%◌, ◌<◌, ◌≤◌, List, [], ◌∷◌, ◌++◌, length, set, take, Some, slice_get, sym, ap, ◌∙◌, refl, arith, subst}
use Rattle.std.proofs.Math.ListN.{get_or-eq_default}
use Rattle.std.proofs.Math.Nat.{eq-or-lt_of_le, mod-lt}
use Rattle.std.proofs.lemmas.Bool.{cases_lt}
use Rattle.std.proofs.lemmas.List.{length-append, map-append, take-append-le}
use Rattle.std.proofs.lemmas.Option.{slice_get-get_or, slice_get_within}
use Rattle.kt_list.specs.declared.hash_chains.HashLink.{HashLink}
use Rattle.kt_list.proofs.ListLemmas.{last_pushed}
use Rattle.kt_list.specs.inner.HashChains.{hashes_of, last_of, EndsChain, AreLasts, AreChained, AreAllChained}

-- ---- elements

pub slice_get-front : {A : Type 0} (xs ys : List A) (place : ℕ) → place < length xs → slice_get (xs ++ ys) place ≡ slice_get xs place
slice_get-front [] ys place h = absurd (omega (arith, h))
slice_get-front (x ∷ xs) ys zero h = refl
slice_get-front (x ∷ xs) ys (suc place) h = slice_get-front xs ys place (omega (arith, h))

-- what stands in a list with an element that is set
pub set_cases : {A : Type 0} (xs : List A) (at place : ℕ) (x y : A) → slice_get (set xs at x) place ≡ Some y
    → ((place ≡ at) × (x ≡ y)) ⊎ ((place ≡ at → ⊥) × (slice_get xs place ≡ Some y))
set_cases [] at place x y h = absurd (cc h)
set_cases (z ∷ xs) zero zero x y h = inl (refl, cc)
set_cases (z ∷ xs) zero (suc place) x y h = inr ((λ e. cc), h)
set_cases (z ∷ xs) (suc at) zero x y h = inr ((λ e. cc), h)
set_cases (z ∷ xs) (suc at) (suc place) x y h = grind (arith, ⊎_elim, set_cases xs)

pub set_length : {A : Type 0} (xs : List A) (at : ℕ) (x : A) → length (set xs at x) ≡ length xs
set_length [] at x = refl
set_length (y ∷ xs) zero x = refl
set_length (y ∷ xs) (suc at) x = ap suc (set_length xs at x)

-- ---- hashes

pub hash_at : (links : List HashLink) (number : ℕ) (link : HashLink) → slice_get links number ≡ Some link → slice_get (hashes_of links) number ≡ Some link.hash
hash_at [] number link h = absurd (cc h)
hash_at (first ∷ links) zero link h = cc
hash_at (first ∷ links) (suc number) link h = hash_at links number link h

pub hashes_length : (links : List HashLink) → length (hashes_of links) ≡ length links
hashes_length [] = refl
hashes_length (link ∷ links) = ap suc (hashes_length links)

pub hashes_set : (links : List HashLink) (number : ℕ) (link new : HashLink) → slice_get links number ≡ Some link → new.hash ≡ link.hash
    → hashes_of (set links number new) ≡ hashes_of links
hashes_set [] number link new h same = refl
hashes_set (first ∷ links) zero link new h same = cc
hashes_set (first ∷ links) (suc number) link new h same = ap (λ (hashes : List ℕ). first.hash ∷ hashes) (hashes_set links number link new h same)

-- ---- the last number of a chain

is_last_alike : (count bound chain next : ℕ) (hashes hashes' : List ℕ)
    → ((number : ℕ) → number < bound → slice_get hashes' number ≡ slice_get hashes number)
    → EndsChain count hashes bound chain next → EndsChain count hashes' bound chain next
is_last_alike count bound chain next hashes hashes' same (below, none, of) = grind arith

-- the number at a bound is of another chain
is_last_more : (count bound chain next hash : ℕ) (hashes : List ℕ) → slice_get hashes bound ≡ Some hash → (chain ≡ hash % count → ⊥)
    → EndsChain count hashes bound chain next → EndsChain count hashes (bound + 1) chain next
is_last_more count bound chain next hash hashes at other (below, none, of) = grind (arith, eq-or-lt_of_le)

-- and was the last of another one
is_last_less : (count bound chain next hash : ℕ) (hashes : List ℕ) → slice_get hashes bound ≡ Some hash → (chain ≡ hash % count → ⊥)
    → EndsChain count hashes (bound + 1) chain next → EndsChain count hashes bound chain next
is_last_less count bound chain next hash hashes at other (below, none, of) = grind (arith, cases_lt)

-- it is the last of its own
is_last_own : (count bound hash : ℕ) (hashes : List ℕ) → slice_get hashes bound ≡ Some hash → EndsChain count hashes (bound + 1) (hash % count) (bound + 1)
is_last_own count bound hash hashes at = grind arith

-- what is kept of a hash's chain
pub last_is : (hashes lasts : List ℕ) (bound hash : ℕ) → 0 < length lasts → AreLasts hashes bound lasts
    → EndsChain (length lasts) hashes bound (hash % length lasts) (last_of lasts hash)
last_is hashes lasts bound hash some are = grind (arith, length, slice_get-get_or, mod-lt)

-- ---- a number becomes the last of its chain

module _ (links : List HashLink) (lasts : List ℕ) (bound : ℕ) (link new : HashLink) (next : ℕ) (at : slice_get links bound ≡ Some link)
    (same : new.hash ≡ link.hash) (some : 0 < length lasts) (before : new.before ≡ last_of lasts link.hash) (is_next : next ≡ bound + 1)
    (are : AreChained bound links lasts) where
  hashed : slice_get (hashes_of links) bound ≡ Some link.hash
  hashed = hash_at links bound link at

  lasts_by : (chain last : ℕ) → ((chain ≡ link.hash % length lasts) × (next ≡ last)) ⊎ ((chain ≡ link.hash % length lasts → ⊥) × (slice_get lasts chain ≡ Some last))
      → EndsChain (length lasts) (hashes_of links) (bound + 1) chain last
  lasts_by chain last (inl (own, e)) = grind (arith, length, is_last_own, hashed)
  lasts_by chain last (inr (other, kept)) = grind (arith, is_last_more, length, hashed)

  befores_by : (number : ℕ) (one : HashLink) → number < bound + 1 → ((number ≡ bound) × (new ≡ one)) ⊎ ((number ≡ bound → ⊥) × (slice_get links number ≡ Some one))
      → EndsChain (length lasts) (hashes_of links) number (one.hash % length lasts) one.before
  befores_by number one less (inl (e, is)) =
      subst (λ (l : HashLink). EndsChain (length lasts) (hashes_of links) number (l.hash % length lasts) l.before) is
      (subst (λ (n : ℕ). EndsChain (length lasts) (hashes_of links) n (new.hash % length lasts) new.before) (sym e)
      (subst (λ (h : ℕ). EndsChain (length lasts) (hashes_of links) bound (h % length lasts) new.before) (sym same)
      (subst (λ (b : ℕ). EndsChain (length lasts) (hashes_of links) bound (link.hash % length lasts) b) (sym before)
      (last_is (hashes_of links) lasts bound link.hash some are.0))))
  befores_by number one less (inr (apart, kept)) = grind (arith, eq-or-lt_of_le)

  pub chained_up : AreChained (bound + 1) (set links bound new) (set lasts (link.hash % length lasts) next)
  chained_up =
      let own = link.hash % length lasts in
      let hashes : hashes_of (set links bound new) ≡ hashes_of links = hashes_set links bound link new at same in
      let count : length (set lasts own next) ≡ length lasts = set_length lasts own next in (
        (λ chain last h. subst (λ (n : ℕ). EndsChain n (hashes_of (set links bound new)) (bound + 1) chain last) (sym count)
            (subst (λ (hs : List ℕ). EndsChain (length lasts) hs (bound + 1) chain last) (sym hashes)
            (lasts_by chain last (set_cases lasts own chain next last h)))),
        (λ number one less h. subst (λ (n : ℕ). EndsChain n (hashes_of (set links bound new)) number (one.hash % n) one.before) (sym count)
            (subst (λ (hs : List ℕ). EndsChain (length lasts) hs number (one.hash % length lasts) one.before) (sym hashes)
            (befores_by number one less (set_cases links bound number new one h)))),
      )

-- ---- one more number, which is in no chain yet

pub chained_push : (links : List HashLink) (lasts : List ℕ) (link : HashLink) → AreChained (length links) links lasts
    → AreChained (length links) (links ++ link ∷ []) lasts
chained_push links lasts link are = grind (arith, map-append, length, slice_get-front, hashes_length, is_last_alike)

pub lengths_alike : (links links' : List HashLink) → hashes_of links' ≡ hashes_of links → length links' ≡ length links
lengths_alike links links' same = sym (hashes_length links') ∙ ap length same ∙ hashes_length links

pub pushed : (links links' : List HashLink) (lasts : List ℕ) (link : HashLink) (number : ℕ) → AreAllChained links lasts → links' ≡ links ++ link ∷ []
    → number ≡ length links → AreChained number links' lasts
pushed links links' lasts link number are more is =
    subst (λ (n : ℕ). AreChained n links' lasts) (sym is)
    (subst (λ (all : List HashLink). AreChained (length links) all lasts) (sym more) (chained_push links lasts link are.0))

pub all_chained : (links : List HashLink) (lasts : List ℕ) (number : ℕ) → AreChained number links lasts → number ≡ length links → number ≤ 2 * length lasts
    → number ≤ 4294967295 → AreAllChained links lasts
all_chained links lasts number are is room small = grind arith

-- ---- the last number is taken away

pub chained_pop : (links : List HashLink) (lasts : List ℕ) (link : HashLink) → AreChained (length links + 1) (links ++ link ∷ []) lasts
    → AreChained (length links) links (set lasts (link.hash % length lasts) link.before)
chained_pop links lasts link are =
    let own = link.hash % length lasts in
    let all = links ++ link ∷ [] in
    let more : hashes_of all ≡ hashes_of links ++ link.hash ∷ [] = map-append (λ (l : HashLink). l.hash) links (link ∷ []) in
    let alike = λ (number : ℕ) (less : number < length links). sym (ap (λ (hs : List ℕ). slice_get hs number) more
    ∙ slice_get-front (hashes_of links) (link.hash ∷ []) number (subst (λ (n : ℕ). number < n) (sym (hashes_length links)) less)) in
    let count : length (set lasts own link.before) ≡ length lasts = set_length lasts own link.before in
    let here : slice_get all (length links) ≡ Some link = last_pushed links link in
    let before = are.1 (length links) link (omega arith) here in
    let by = λ (chain last : ℕ) (cases : ((chain ≡ own) × (link.before ≡ last)) ⊎ ((chain ≡ own → ⊥) × (slice_get lasts chain ≡ Some last))).
    ⊎_elim (λ l. subst (λ (c : ℕ). EndsChain (length lasts) (hashes_of all) (length links) c last) (sym l.0)
    (subst (λ (n : ℕ). EndsChain (length lasts) (hashes_of all) (length links) own n) l.1 before))
    (λ r. is_last_less (length lasts) (length links) chain last link.hash (hashes_of all) (hash_at all (length links) link here) r.0 (are.0 chain last r.1)) cases in (
      (λ chain last h. subst (λ (n : ℕ). EndsChain n (hashes_of links) (length links) chain last) (sym count)
          (is_last_alike (length lasts) (length links) chain last (hashes_of all) (hashes_of links) alike (by chain last (set_cases lasts own chain link.before last h)))),
      (λ number one less h. subst (λ (n : ℕ). EndsChain n (hashes_of links) number (one.hash % n) one.before) (sym count)
          (is_last_alike (length lasts) number (one.hash % length lasts) one.before (hashes_of all) (hashes_of links)
          (λ n l. alike n (omega (arith, less, l))) (are.1 number one (omega (arith, less)) (slice_get-front links (link ∷ []) number less ∙ h)))),
    )

pub all_popped : (links links' : List HashLink) (lasts : List ℕ) (link : HashLink) → AreAllChained links lasts → links ≡ links' ++ link ∷ []
    → AreAllChained links' (set lasts (link.hash % length lasts) link.before)
all_popped links links' lasts link are more =
    let own = link.hash % length lasts in
    let count : length (set lasts own link.before) ≡ length lasts = set_length lasts own link.before in
    let long : length links ≡ length links' + 1 = ap length more ∙ length-append links' (link ∷ []) in (
      chained_pop links' lasts link (subst (λ (all : List HashLink). AreChained (length links' + 1) all lasts) more
          (subst (λ (n : ℕ). AreChained n links lasts) long are.0)),
      omega (arith, count, long, are.1),
      omega (arith, long, are.2),
    )

pub fewer_hashes : (links links' : List HashLink) (link : HashLink) (len : ℕ) → links ≡ links' ++ link ∷ [] → len ≤ length links'
    → take len (hashes_of links') ≡ take len (hashes_of links)
fewer_hashes links links' link len more within = grind (arith, take, map-append, take-append-le, hashes_length)

-- ---- a look-up

module _ (P : ℕ → Type 0) (links : List HashLink) (lasts : List ℕ) (hash : ℕ) where
  -- none from here on is the one, and the number before is of the hash's chain
  abbrev pub IsLeft : ℕ → Type 0
  IsLeft left =
      ((number : ℕ) → left ≤ number → slice_get (hashes_of links) number ≡ Some hash → P number) × (left ≤ length links)
      × ((number h : ℕ) → left ≡ suc number → slice_get (hashes_of links) number ≡ Some h → h % length lasts ≡ hash % length lasts)

  none_left : (bound left : ℕ) → bound ≤ length links → ((number : ℕ) → bound ≤ number → slice_get (hashes_of links) number ≡ Some hash → P number)
      → EndsChain (length lasts) (hashes_of links) bound (hash % length lasts) left → IsLeft left
  none_left bound left within none (below, lacks, of) = (by_all, omega (arith, below, within), of)
    where
      by : (number : ℕ) → left ≤ number → slice_get (hashes_of links) number ≡ Some hash → (number < bound) ⊎ (bound ≤ number) → P number
      by number least at (inl less) = absurd (lacks number hash least less at refl)
      by number least at (inr more) = none number more at

      by_all : (number : ℕ) → left ≤ number → slice_get (hashes_of links) number ≡ Some hash → P number
      by_all number least at = by number least at (cases_lt number bound)

  no_number : (number : ℕ) → length links ≤ number → slice_get (hashes_of links) number ≡ Some hash → P number
  no_number number past at = grind (arith, length, slice_get_within, hashes_length)

  by_chains : AreAllChained links lasts → (0 < length lasts) ⊎ (length lasts ≤ 0) → IsLeft (last_of lasts hash)
  by_chains are (inl some) =
      none_left (length links) (last_of lasts hash) (omega arith) no_number
      (last_is (hashes_of links) lasts (length links) hash some are.0.0)
  by_chains are (inr none) = grind (arith, get_or-eq_default, length, no_number)

  pub left_at_first : AreAllChained links lasts → IsLeft (last_of lasts hash)
  left_at_first are = by_chains are (cases_lt 0 (length lasts))

  -- the number before isn't the one
  pub left_after : AreAllChained links lasts → (left : ℕ) (link : HashLink) → 0 < left → slice_get links (left - 1) ≡ Some link → (link.hash ≡ hash → P (left - 1)) → IsLeft left → IsLeft link.before
  left_after are left link some at isn't (none, within, of) =
      none_left (left - 1) link.before (omega (arith, within)) none_more
      (subst (λ (chain : ℕ). EndsChain (length lasts) (hashes_of links) (left - 1) chain link.before)
      (of (left - 1) link.hash (omega (arith, some)) (hash_at links (left - 1) link at))
      (are.0.1 (left - 1) link (slice_get_within links (left - 1) link at) at))
    where
      at_hash : slice_get (hashes_of links) (left - 1) ≡ Some link.hash
      at_hash = hash_at links (left - 1) link at

      by : (number : ℕ) → slice_get (hashes_of links) number ≡ Some hash → (left - 1 ≡ number) ⊎ (left - 1 < number) → P number
      by number here (inl e) = subst P e (isn't (cc (at_hash, here, e)))
      by number here (inr more) = none number (omega (arith, more, some)) here

      none_more : (number : ℕ) → left - 1 ≤ number → slice_get (hashes_of links) number ≡ Some hash → P number
      none_more number least here = by number here (eq-or-lt_of_le least)
