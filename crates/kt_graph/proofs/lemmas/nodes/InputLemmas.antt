-- Numbers without repeats, and the inputs of parts.
use Rattle.std.proofs.Common.{◌≡◌, ℕ, ◌<◌, ◌≤◌, not, get_or, List, [], ◌∷◌, ◌++◌, ap, append-nil, append_assoc, arith, fold, length, nat_eq, nat_lt, refl, sym, subst, ◌∙◌, false, true}
use Rattle.kt_graph.proofs.Common.{AllByRecursion, IsDistinct, list_all, list_any, IsPermutation, eq-eqb, eqb-false, eqb-true, ltb-true, ne_eqb, true≢false, flat_map-map, IsPermutation-sym, IsDistinct-cons, IsDistinct-head, IsDistinct-tail, IsDistinct-IsPermutation, and_first, and_second, HeldPart, HasOwnInputs, differ, inputs_held, numbers_without, others_held, rise, rise_after, rise_but_first, with_input_number, AreRowsOf, IsPartWithin, StoredPart, input_numbers, order_only_numbers, part_stored, parts_stored}

-- ---- numbers that rise

-- those that rise after a number differ from each that isn't greater
apart_after : (least last : ℕ) (numbers : List ℕ) → least ≤ last → rise_after last numbers ≡ true
    → AllByRecursion (λ y. nat_eq least y ≡ false) numbers
unfolding rise_after
apart_after least last [] low h = tt
apart_after least last (number ∷ numbers) low h =
    let up : last < number = ltb-true last number (and_first (nat_lt last number) (rise_after number numbers) h) in (
      ne_eqb least number (λ same. absurd (omega (arith, up, low, same))),
      apart_after least number numbers (omega (arith, up, low)) (and_second (nat_lt last number) (rise_after number numbers) h),
    )

after_distinct : (first : ℕ) (numbers : List ℕ) → rise_after first numbers ≡ true → IsDistinct nat_eq (first ∷ numbers)
unfolding rise_after IsDistinct
after_distinct first [] h = IsDistinct-cons nat_eq first [] tt tt
after_distinct first (number ∷ numbers) h =
    IsDistinct-cons nat_eq first (number ∷ numbers) (apart_after first first (number ∷ numbers) (omega arith) h)
    (after_distinct number numbers (and_second (nat_lt first number) (rise_after number numbers) h))

pub rising_distinct : (numbers : List ℕ) → rise numbers ≡ true → IsDistinct nat_eq numbers
unfolding rise IsDistinct
rising_distinct numbers h = grind (arith, after_distinct)

apart_above : (bound : ℕ) (numbers : List ℕ) → list_all (λ number. nat_lt number bound) numbers ≡ true
    → AllByRecursion (λ y. nat_eq bound y ≡ false) numbers
apart_above bound [] h = tt
apart_above bound (number ∷ numbers) h =
    let low : number < bound = ltb-true number bound (and_first (nat_lt number bound) (list_all (λ y. nat_lt y bound) numbers) h) in (
      ne_eqb bound number (λ same. absurd (omega (arith, low, same))),
      apart_above bound numbers (and_second (nat_lt number bound) (list_all (λ y. nat_lt y bound) numbers) h),
    )

pub newest_distinct : (numbers : List ℕ) → rise_but_first numbers ≡ true → IsDistinct nat_eq numbers
unfolding rise_but_first IsDistinct
newest_distinct [] h = tt
newest_distinct (first ∷ numbers) h =
    let below = list_all (λ number. nat_lt number first) numbers in
    IsDistinct-cons nat_eq first numbers (apart_above first numbers (and_second (rise numbers) below h))
    (rising_distinct numbers (and_first (rise numbers) below h))

eqb-flips : (x y : ℕ) → nat_eq x y ≡ nat_eq y x
eqb-flips x y = grind (arith, nat_eq, eq-eqb, eqb-true, ne_eqb, eqb-false)

pub sorted_distinct : (numbers sorted : List ℕ) → IsPermutation numbers sorted → rise sorted ≡ true → IsDistinct nat_eq numbers
sorted_distinct numbers sorted moved h =
    IsDistinct-IsPermutation nat_eq eqb-flips sorted numbers (IsPermutation-sym numbers sorted moved) (rising_distinct sorted h)

-- ---- numbers without repeats

-- a number after others isn't among them
is_last : (numbers : List ℕ) (number : ℕ) (later : List ℕ) (other : ℕ)
    → AllByRecursion (λ y. nat_eq other y ≡ false) (numbers ++ number ∷ later) → nat_eq number other ≡ false
is_last [] number later other h = eqb-flips number other ∙ h.0
is_last (first ∷ numbers) number later other h = is_last numbers number later other h.1

isnt_among : (numbers : List ℕ) (number : ℕ) (later : List ℕ) → IsDistinct nat_eq (numbers ++ number ∷ later)
    → list_any (nat_eq number) numbers ≡ false
isnt_among [] number later h = refl
isnt_among (first ∷ numbers) number later h =
    rw (is_last numbers number later first (IsDistinct-head nat_eq first (numbers ++ number ∷ later) h))
    (isnt_among numbers number later (IsDistinct-tail nat_eq first (numbers ++ number ∷ later) h))

all_after : (front numbers : List ℕ) → IsDistinct nat_eq (front ++ numbers) → fold with_input_number front numbers ≡ front ++ numbers
all_after front [] h = sym (append-nil front)
all_after front (number ∷ numbers) h =
    let new : with_input_number front number ≡ front ++ number ∷ [] = rw (isnt_among front number numbers h) refl in
    let joined : (front ++ number ∷ []) ++ numbers ≡ front ++ number ∷ numbers = append_assoc front (number ∷ []) numbers in
    ap (λ xs. fold with_input_number xs numbers) new
    ∙ all_after (front ++ number ∷ []) numbers (subst (λ xs. IsDistinct nat_eq xs) (sym joined) h)
    ∙ joined

pub all_stay : (numbers : List ℕ) → IsDistinct nat_eq numbers → fold with_input_number [] numbers ≡ numbers
all_stay numbers h = all_after [] numbers h

-- ---- numbers that differ

apart : (first : ℕ) (numbers : List ℕ) → not (list_any (nat_eq first) numbers) ≡ true → AllByRecursion (λ y. nat_eq first y ≡ false) numbers
apart first [] h = tt
apart first (number ∷ numbers) h = grind (arith, nat_eq, not, true≢false, apart first numbers)

pub differ_distinct : (numbers : List ℕ) → differ numbers ≡ true → IsDistinct nat_eq numbers
unfolding differ IsDistinct
differ_distinct [] h = tt
differ_distinct (first ∷ numbers) h = grind (arith, IsDistinct-cons, nat_eq, apart, and_first, not, and_second, differ_distinct numbers (and_second (not (list_any (nat_eq first) numbers)) (differ numbers) h))

-- ---- the inputs of parts

pub inputs_same : (rows : List (List ℕ)) (parts : List HeldPart) → inputs_held rows parts ≡ input_numbers (parts_stored rows parts)
inputs_same rows parts = ap (fold with_input_number []) (sym (flat_map-map (λ (part : StoredPart). part.prerequisites) (part_stored rows) parts))

pub order_only_same : (rows : List (List ℕ)) (parts : List HeldPart)
    → fold with_input_number [] (numbers_without (inputs_held rows parts) (others_held rows parts)) ≡ order_only_numbers (parts_stored rows parts)
order_only_same rows parts = grind (arith, inputs_same, flat_map-map)

pub one_alone : {A : Type 0} (xs : List A) (x : A) → 1 ≤ length xs → length xs < 2 → x ≡ get_or xs 0 x → xs ≡ x ∷ []
one_alone [] x some few at = absurd (omega (arith, some))
one_alone (first ∷ []) x some few at = ap (λ y. y ∷ []) (sym at)
one_alone (first ∷ second ∷ xs) x some few at = absurd (omega (arith, few))

-- the rows of the only part
pub own_rows : (rows : List (List ℕ)) (part : HeldPart) (parts : List HeldPart) → parts ≡ part ∷ [] → IsPartWithin (length rows) part → HasOwnInputs rows part
    → AreRowsOf rows (input_numbers (parts_stored rows parts)) (order_only_numbers (parts_stored rows parts)) part.needs
own_rows rows part parts alone within own = grind (arith, all_stay, append-nil, get_or)
