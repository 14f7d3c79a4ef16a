-- Names that are sorted with their numbers.
use Rattle.std.proofs.Common.{◌≡◌, ℕ, suc, zero, ◌+◌, ◌<◌, ◌↔◌, false, List, [], ◌∷◌, ◌++◌, length, map, take, get_or, unwrap_or, All, Option, refl, sym, ap, ◌∙◌, subst, arith, add-zero}
use Rattle.kt_graph.proofs.Common.{Contains, range_with_len, swap, IsPermutation, IsSorted, IsSortedBy, IsStrictlySortedBy, MatchOrdering, is_eq, is_lt, nat_cmp, ordering_then, ordering_reverse, slice_cmp, Ordering, Less, Equal, Greater, false≢true, nat_cmp_total, nat_list_cmp_total, on_total, then_total, length-map, get_or-map, map-append, take_more, All-contains, All-push, recursion_from_All, length-range_with_len, get_or-range_with_len, All-permutation, Contains-permutation, IsPermutation-keeps, IsPermutation-map, IsPermutation-swap, length_permutation, ranks_by, sorted_far, is_eq-slice_cmp, bytes_eq-Decides, slice_get-get_or, Text, Front, AreDistinct, IsByteOrder, name_at, names_at}
use Rattle.std.specs.Cmp.{IsStrictWeakOrder, IsTotalOrder}
use Rattle.indexmap.proofs.ReorderLemmas.{exchange, exchange-twice, exchange-within, get_or-swap}
use Rattle.kt_text.proofs.lemmas.SortLemmas.{fronts_decide}
use Rattle.kt_graph.specs.inner.nodes.Fronts.{AreFronts, IsFront, front_cmp}

-- ---- numbers that differ

-- no number is repeated
IsSingle : List ℕ → Type 0
IsSingle xs = (i j d : ℕ) → i < length xs → j < length xs → get_or xs i d ≡ get_or xs j d → i ≡ j

single-swap : (xs : List ℕ) (a b : ℕ) → a < length xs → b < length xs → IsSingle xs → IsSingle (swap xs a b)
unfolding IsSingle
single-swap xs a b in_a in_b single i j d in_i in_j same =
    let long : length (swap xs a b) ≡ length xs = length_permutation xs (swap xs a b) (IsPermutation-swap xs (swap xs a b) a b in_a in_b refl) in
    let below_i : i < length xs = omega arith in
    let below_j : j < length xs = omega arith in
    let e : exchange a b i ≡ exchange a b j =
    single (exchange a b i) (exchange a b j) d (exchange-within a b (length xs) i in_a in_b below_i) (exchange-within a b (length xs) j in_a in_b below_j)
    (sym (get_or-swap xs a b d in_a in_b i) ∙ same ∙ get_or-swap xs a b d in_a in_b j) in
    sym (exchange-twice a b i) ∙ ap (exchange a b) e ∙ exchange-twice a b j

single-range : (n : ℕ) → IsSingle (range_with_len 0 n)
unfolding IsSingle
single-range n i j d in_i in_j same = grind (arith, length, length-range_with_len, get_or, get_or-range_with_len)

-- numbers in another order have no repeats
single_permuted : (n : ℕ) (order : List ℕ) → IsPermutation (range_with_len 0 n) order → IsSingle order
single_permuted n order moved =
    IsPermutation-keeps (range_with_len 0 n) IsSingle (single-range n) (λ l i j in_i in_j single. single-swap l i j in_i in_j single) order moved

within_range : (n : ℕ) → All (λ k. k < n) (range_with_len 0 n)
within_range n k d within = grind (arith, length, length-range_with_len, get_or-range_with_len)

-- and have all numbers
pub has_number : (n : ℕ) (order : List ℕ) → IsPermutation (range_with_len 0 n) order → (number : ℕ) → Contains order number ↔ (number < n)
has_number n order moved number =
    let zero_on : 0 + number ≡ number = omega arith in (
      λ there. All-contains (λ k. k < n) order number (All-permutation (λ k. k < n) (range_with_len 0 n) order moved (within_range n)) there,
      λ within. Contains-permutation (range_with_len 0 n) order number moved
          (number, rw (length-range_with_len 0 n) within, get_or-range_with_len 0 n number number within ∙ zero_on),
    )

-- ---- names that rise

-- of two texts that differ, if the second isn't less, the first is
less_from : (x y : Text) → is_lt (slice_cmp nat_cmp y x) ≡ false → (x ≡ y → ⊥) → slice_cmp nat_cmp x y ≡ Less
less_from x y not_less differ = by (slice_cmp nat_cmp x y) refl
  where
    by : (o : Ordering) → slice_cmp nat_cmp x y ≡ o → slice_cmp nat_cmp x y ≡ Less
    by Less e = e
    by Equal e = absurd (differ ((bytes_eq-Decides x y).0 (sym (is_eq-slice_cmp x y) ∙ ap is_eq e)))
    by Greater e =
        let back : slice_cmp nat_cmp y x ≡ Less = nat_list_cmp_total.antisymm y x ∙ ap ordering_reverse e in
        absurd (false≢true (sym not_less ∙ ap is_lt back))

rising_by : (xs : List Text) → ((i j : ℕ) (d : Text) → i < j → j < length xs → slice_cmp nat_cmp (get_or xs i d) (get_or xs j d) ≡ Less)
    → IsStrictlySortedBy (slice_cmp nat_cmp) xs
unfolding IsStrictlySortedBy
rising_by [] less = tt
rising_by (x ∷ xs) less = (
  recursion_from_All (λ y. slice_cmp nat_cmp x y ≡ Less) xs (λ k d within. less 0 (suc k) d (omega arith) (omega arith)),
  rising_by xs (λ i j d before within. less (suc i) (suc j) d (omega arith) (omega arith)),
)

-- names in turn, none less than one before it, of which no two are equal
pub rising : (xs : List Text) → IsSortedBy (λ x y. is_lt (slice_cmp nat_cmp x y)) xs
    → ((i j : ℕ) (d : Text) → i < length xs → j < length xs → get_or xs i d ≡ get_or xs j d → i ≡ j)
    → IsStrictlySortedBy (slice_cmp nat_cmp) xs
rising xs sorted single =
    rising_by xs (λ i j d before within.
    less_from (get_or xs i d) (get_or xs j d)
    (sorted_far (λ x y. is_lt (slice_cmp nat_cmp x y)) (ranks_by nat_list_cmp_total (λ x. x)) xs sorted i j d (omega arith) within)
    (λ same. let e : i ≡ j = single i j d (omega arith) within same in omega arith))

-- ---- names with their first bytes

-- if the order by first bytes doesn't say less, the order of the names doesn't
not_less : (names : List Text) (x y : Front) → IsFront names x → IsFront names y → is_lt (front_cmp names x y) ≡ false
    → is_lt (slice_cmp nat_cmp (name_at names x.number) (name_at names y.number)) ≡ false
not_less names x y is_x is_y h =
    by (nat_cmp x.bytes y.bytes) h
    (fronts_decide (name_at names x.number) (name_at names y.number) x.bytes y.bytes (nat_cmp x.bytes y.bytes) is_x.begins is_y.begins is_x.small is_y.small refl)
  where
    by : (o : Ordering) → is_lt (ordering_then o (slice_cmp nat_cmp (name_at names x.number) (name_at names y.number))) ≡ false
        → MatchOrdering o (slice_cmp nat_cmp (name_at names x.number) (name_at names y.number) ≡ Less) (Unit {0})
        (slice_cmp nat_cmp (name_at names x.number) (name_at names y.number) ≡ Greater)
        → is_lt (slice_cmp nat_cmp (name_at names x.number) (name_at names y.number)) ≡ false
    by Less e decided = absurd (false≢true (sym e))
    by Equal e decided = e
    by Greater e decided = ap is_lt decided

front_total : (names : List Text) → IsTotalOrder (front_cmp names)
front_total names = then_total (on_total (λ (front : Front). front.bytes) nat_cmp_total) (on_total (λ (front : Front). name_at names front.number) nat_list_cmp_total)

-- a sort by this order may be one by a test
pub front_ranks : (names : List Text) → IsStrictWeakOrder (λ x y. is_lt (front_cmp names x y))
front_ranks names = ranks_by (front_total names) (λ (front : Front). front)

names_of : (names : List Text) (fronts : List Front) → map (λ (front : Front). name_at names front.number) fronts ≡ names_at names (map (λ (front : Front). front.number) fronts)
names_of names [] = refl
names_of names (front ∷ fronts) = ap (λ rest. name_at names front.number ∷ rest) (names_of names fronts)

names_sorted : (names : List Text) (fronts : List Front) → All (IsFront names) fronts → IsSorted (front_cmp names) fronts
    → IsSortedBy (λ x y. is_lt (slice_cmp nat_cmp x y)) (map (λ (front : Front). name_at names front.number) fronts)
names_sorted names fronts are sorted k d low within =
    let long : length (map (λ (front : Front). name_at names front.number) fronts) ≡ length fronts = length-map fronts (λ (front : Front). name_at names front.number) in
    let past : Front = record { bytes = 0; number = 0 } in
    let this : get_or (map (λ (front : Front). name_at names front.number) fronts) k d ≡ name_at names (get_or fronts k past).number
    = get_or-map (λ (front : Front). name_at names front.number) fronts k past d (omega arith) in
    let next : get_or (map (λ (front : Front). name_at names front.number) fronts) (k + 1) d ≡ name_at names (get_or fronts (k + 1) past).number
    = get_or-map (λ (front : Front). name_at names front.number) fronts (k + 1) past d (omega arith) in
    rw (this, next)
    (not_less names (get_or fronts (k + 1) past) (get_or fronts k past) (are (k + 1) past (omega arith)) (are k past (omega arith)) (sorted k past low (omega arith)))

single_at : (order : List ℕ) → IsSingle order → (i j : ℕ) → i < length order → j < length order → get_or order i 0 ≡ get_or order j 0 → i ≡ j
unfolding IsSingle
single_at order single i j in_i in_j same = single i j 0 in_i in_j same

-- names that are sorted by their first bytes and then by all are in byte order
pub sorted_order : (names : List Text) (fronts sorted : List Front) → AreDistinct names → AreFronts names (length names) fronts
    → IsPermutation fronts sorted → IsSorted (front_cmp names) sorted → IsByteOrder names (map (λ (front : Front). front.number) sorted)
sorted_order names fronts sorted distinct first moved up =
    let order : List ℕ = map (λ (front : Front). front.number) sorted in
    let n = length names in
    let moved_numbers : IsPermutation (range_with_len 0 n) order
    = subst (λ xs. IsPermutation xs order) first.numbers (IsPermutation-map (λ (front : Front). front.number) fronts sorted moved) in
    let are : All (IsFront names) sorted = All-permutation (IsFront names) fronts sorted moved first.are in
    let below : All (λ k. k < n) order = All-permutation (λ k. k < n) (range_with_len 0 n) order moved_numbers (within_range n) in
    let single = single_permuted n order moved_numbers in
    let long : length (names_at names order) ≡ length order = length-map order (name_at names) in
    record {
      rises = rising (names_at names order)
          (subst (λ xs. IsSortedBy (λ x y. is_lt (slice_cmp nat_cmp x y)) xs) (names_of names sorted) (names_sorted names sorted are up))
          (λ i j d in_i in_j same.
          let at_i : get_or (names_at names order) i d ≡ name_at names (get_or order i 0) = get_or-map (name_at names) order i 0 d (omega arith) in
          let at_j : get_or (names_at names order) j d ≡ name_at names (get_or order j 0) = get_or-map (name_at names) order j 0 d (omega arith) in
          single_at order single i j (omega arith) (omega arith)
          (distinct (get_or order i 0) (get_or order j 0) (below i 0 (omega arith)) (below j 0 (omega arith)) (sym at_i ∙ same ∙ at_j)));
      all = has_number n order moved_numbers;
    }

-- ---- one more

range_more : (a n : ℕ) → range_with_len a n ++ (a + n) ∷ [] ≡ range_with_len a (n + 1)
range_more a zero = ap (λ k. k ∷ []) (add-zero a)
range_more a (suc n) = grind (arith, range_more (a + 1) n)

pub fronts_more : (names : List Text) (number : ℕ) (fronts more : List Front) (front : Front) → AreFronts names number fronts
    → IsFront names front → front.number ≡ number → more ≡ fronts ++ front ∷ [] → AreFronts names (number + 1) more
fronts_more names number fronts more front first is at grown = record {
  numbers = ap (map (λ (f : Front). f.number)) grown ∙ map-append (λ (f : Front). f.number) fronts (front ∷ [])
      ∙ ap (λ before. before ++ front.number ∷ []) first.numbers ∙ ap (λ k. range_with_len 0 number ++ k ∷ []) (at ∙ omega arith) ∙ range_more 0 number;
  are = subst (λ xs. All (IsFront names) xs) (sym grown) (All-push (IsFront names) fronts front first.are is);
}

-- the first names, with the next one
pub taken_more : (names : List Text) (number : ℕ) → number < length names → take number names ++ name_at names number ∷ [] ≡ take (number + 1) names
taken_more names number within =
    ap (λ (o : Option Text). take number names ++ unwrap_or o [] ∷ []) (slice_get-get_or names number [] within) ∙ sym (take_more names number [] within)
