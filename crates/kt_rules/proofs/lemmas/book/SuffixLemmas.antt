-- Suffixes in a name, by their lengths.
use Rattle.std.proofs.Common.{rules, ◌≡◌, ℕ, zero, suc, ◌+◌, ◌-◌, ◌<◌, ◌≤◌, Bool, true, false, cond, ◌&&◌, ◌||◌, List, [], ◌∷◌, ◌++◌, find, fold, position, length, take, drop, Option, Some, None, IfSome, refl, sym, ap, subst, ◌∙◌, true≢false, arith, get_or, slice_get, Result, OnOk, OnErr, ◌≢◌, min, nat_eq, nat_lt, if◌then◌else◌}
use Rattle.kt_rules.proofs.Common.{option_and_then, ends_with, position_from, position_or_len, range_with_len, pointwise, as_long, nat_list_eq_equiv, eq-eqb, eqb-true, lt-ltb, ltb-false, ltb-true, or_left, or_right, IfSome_then, slice_get_past, position_from-zero, fold-append, drop_more, drop_all, length-drop, length-take-le, and_first, Text, is_among, with_name, HaveLengths, KeepLengths, cut_after, earlier, end_of_length, first_cut, first_end, is_cut_inside, is_number_among, lengths_with, with_number, Needs, all_needs, is_cut_at, suffix_cut}
use Rattle.std.proofs.lemmas.List.Folds as folds

-- ---- lengths

or_either : (P : Type 0) (a b : Bool) → (a || b) ≡ true → (a ≡ true → P) → (b ≡ true → P) → P
or_either P true b h one two = one refl
or_either P false b h one two = two h

-- a number that is added is at the end
last_number : (numbers : List ℕ) (number : ℕ) → is_number_among (numbers ++ number ∷ []) number ≡ true
last_number [] number = or_left (nat_eq number number) false (eq-eqb number number refl)
last_number (first ∷ numbers) number = or_right (nat_eq number first) _ (last_number numbers number)

more_numbers : (numbers : List ℕ) (number other : ℕ) → is_number_among numbers other ≡ true → is_number_among (numbers ++ number ∷ []) other ≡ true
more_numbers [] number other h = absurd (true≢false (sym h))
more_numbers (first ∷ numbers) number other h =
    or_either (is_number_among (first ∷ numbers ++ number ∷ []) other ≡ true) (nat_eq other first) (is_number_among numbers other) h
    (or_left (nat_eq other first) _)
    (λ e. or_right (nat_eq other first) _ (more_numbers numbers number other e))

-- a number that is added is among the numbers, and the others stay
number_added : (numbers : List ℕ) (number : ℕ) → is_number_among (with_number numbers number) number ≡ true
number_added numbers number = grind (arith, last_number)

number_kept : (numbers : List ℕ) (number other : ℕ) → is_number_among numbers other ≡ true → is_number_among (with_number numbers number) other ≡ true
number_kept numbers number other h = grind (arith, more_numbers)

-- one length more keeps those of all names
pub length_kept : (old lengths : List ℕ) (number : ℕ) → KeepLengths old lengths → KeepLengths old (with_number lengths number)
length_kept old lengths number kept names have name h = number_kept lengths number (length name) (kept names have name h)

-- a name among others and one more
among_more : (names : List Text) (name other : Text) → is_among (names ++ name ∷ []) other ≡ true → (is_among names other || pointwise nat_eq other name) ≡ true
among_more [] name other h = or_either (pointwise nat_eq other name ≡ true) (pointwise nat_eq other name) false h (λ e. e) (λ e. absurd (true≢false (sym e)))
among_more (first ∷ names) name other h =
    or_either ((is_among (first ∷ names) other || pointwise nat_eq other name) ≡ true) (pointwise nat_eq other first) (is_among (names ++ name ∷ []) other) h
    (λ e. or_left (is_among (first ∷ names) other) _ (or_left (pointwise nat_eq other first) _ e))
    (λ e. or_either ((is_among (first ∷ names) other || pointwise nat_eq other name) ≡ true) (is_among names other) (pointwise nat_eq other name)
    (among_more names name other e)
    (λ a. or_left (is_among (first ∷ names) other) _ (or_right (pointwise nat_eq other first) _ a))
    (or_right (is_among (first ∷ names) other) _))

-- a name more with its length
name_added : (names : List Text) (lengths : List ℕ) (name : Text) → HaveLengths names lengths → HaveLengths (with_name names name) (with_number lengths (length name))
name_added names lengths name have = by (is_among names name)
  where
    before : (other : Text) → is_among names other ≡ true → is_number_among (with_number lengths (length name)) (length other) ≡ true
    before other h = number_kept lengths (length name) (length other) (have other h)

    last : (other : Text) → pointwise nat_eq other name ≡ true → is_number_among (with_number lengths (length name)) (length other) ≡ true
    last other same =
        let e : length other ≡ length name = as_long nat_eq other name same in
        ap (is_number_among (with_number lengths (length name))) e ∙ number_added lengths (length name)

    by : (b : Bool) → HaveLengths (if b then names else names ++ name ∷ []) (with_number lengths (length name))
    by true = before
    by false = λ other h.
        or_either (is_number_among (with_number lengths (length name)) (length other) ≡ true) (is_among names other) (pointwise nat_eq other name)
        (among_more names name other h) (before other) (last other)

-- the names that are added, with their lengths
pub names_added : (names : List Text) (lengths : List ℕ) (more : List Text) → HaveLengths names lengths → HaveLengths (fold with_name names more) (lengths_with lengths more)
unfolding lengths_with
names_added names lengths [] have = have
names_added names lengths (name ∷ more) have = grind (arith, length, name_added, names_added (with_name names name) (with_number lengths (length name)) more (name_added names lengths name have))

-- the needs of a rule that are added, with their lengths
pub needs_added : (names : List Text) (lengths first second : List ℕ) (needs : Needs) → HaveLengths names lengths
    → first ≡ lengths_with lengths needs.prerequisites → second ≡ lengths_with first needs.order_only
    → HaveLengths (fold with_name names (all_needs needs)) second
needs_added names lengths first second needs have one two = grind (arith, names_added, fold-append)

-- names that were added, or are as they were
pub by_result : {A E : Type 0} (result : Result A E) (old new more : List Text) (lengths : List ℕ) → OnOk result (new ≡ more) → OnErr result (new ≡ old)
    → HaveLengths more lengths → HaveLengths old lengths → HaveLengths new lengths
by_result result old new more lengths ok err all few = grind arith

-- names by themselves, with their lengths
kept_with : (lengths : List ℕ) (names : List Text) (number : ℕ) → is_number_among lengths number ≡ true → is_number_among (lengths_with lengths names) number ≡ true
unfolding lengths_with
kept_with lengths [] number h = h
kept_with lengths (name ∷ names) number h = kept_with (with_number lengths (length name)) names number (number_kept lengths (length name) number h)

pub own_lengths : (lengths : List ℕ) (names : List Text) → HaveLengths names (lengths_with lengths names)
unfolding lengths_with
own_lengths lengths [] other h = absurd (true≢false (sym h))
own_lengths lengths (name ∷ names) other h = search (rules, or_either, length, pointwise, nat_eq, kept_with, number_added, own_lengths (with_number lengths (length name)) names other)

-- a length of names from a place on
pub lengths_at : (lengths : List ℕ) (names : List Text) (i : ℕ) (name : Text) → i < length names → name ≡ get_or names i name
    → lengths_with (with_number lengths (length name)) (drop (i + 1) names) ≡ lengths_with lengths (drop i names)
unfolding lengths_with
lengths_at lengths names i name h e = grind (arith, drop_more)

-- a length of the remaining names
pub lengths_left : (lengths more : List ℕ) (left rest : List Text) (name : Text) → more ≡ with_number lengths (length name) → left ≡ name ∷ rest
    → lengths_with more rest ≡ lengths_with lengths left
unfolding lengths_with
lengths_left lengths more left rest name noted is = ap (λ ls. lengths_with ls rest) noted ∙ sym (ap (lengths_with lengths) is)

pub lengths_none : (lengths : List ℕ) (left : List Text) → left ≡ [] → lengths_with lengths left ≡ lengths
unfolding lengths_with
lengths_none lengths left none = ap (lengths_with lengths) none

pub lengths_end : (lengths : List ℕ) (names : List Text) (i : ℕ) → length names ≤ i → lengths_with lengths (drop i names) ≡ lengths
unfolding lengths_with
lengths_end lengths names i h = ap (lengths_with lengths) (drop_all i names h)

-- ---- the smaller of two places

if_found : (P : ℕ → Type 0) (from : ℕ) (found : Option ℕ) (b : Bool) → P from → IfSome found P → IfSome (cond b (Some from) found) P
if_found P from found b h rest = grind arith

one_before : (from place : ℕ) → from + 1 ≤ place → from ≤ place
one_before from place h = omega arith

min_same : (n : ℕ) → Some n ≡ Some (min n n)
min_same n = let e : n ≡ min n n = omega arith in ap Some e

min_left : (n : ℕ) (found : Option ℕ) → IfSome found (λ place. n + 1 ≤ place) → Some n ≡ earlier (Some n) found
min_left n found h = grind (arith, min)

min_right : (n : ℕ) (found : Option ℕ) → IfSome found (λ place. n + 1 ≤ place) → Some n ≡ earlier found (Some n)
min_right n found h = grind (arith, min)

either_step : (p q c : Bool) (from : ℕ) (one two both : Option ℕ) → IfSome one (λ place. from + 1 ≤ place) → IfSome two (λ place. from + 1 ≤ place)
    → both ≡ earlier one two
    → cond ((p || q) && c) (Some from) both ≡ earlier (cond (p && c) (Some from) one) (cond (q && c) (Some from) two)
either_step p q c from one two both a b e = grind (arith, min_same, min_left, min_right)

earlier_none : (found : Option ℕ) → earlier found None ≡ found
earlier_none found = grind arith

earlier_assoc : (a b c : Option ℕ) → earlier (earlier a b) c ≡ earlier a (earlier b c)
earlier_assoc a b c = grind (arith, min)

-- ---- one length after the other

-- a length from a place on is tried, where the lengths are searched one by one
tried : (search_in : List ℕ → Option ℕ) (search_at : ℕ → Option ℕ) → ((n : ℕ) (ns : List ℕ) → search_in (n ∷ ns) ≡ earlier (search_at n) (search_in ns))
    → (lengths : List ℕ) (i n : ℕ) (first one next : Option ℕ) → i < length lengths → n ≡ get_or lengths i 0 → one ≡ search_at n → next ≡ earlier first one
    → earlier next (search_in (drop (i + 1) lengths)) ≡ earlier first (search_in (drop i lengths))
tried search_in search_at more lengths i n first one next h e at both = grind (arith, earlier_assoc, drop_more)

-- none remains
all_tried : (search_in : List ℕ → Option ℕ) → search_in [] ≡ None → (lengths : List ℕ) (i : ℕ) (first : Option ℕ) → length lengths ≤ i
    → earlier first (search_in (drop i lengths)) ≡ first
all_tried search_in none lengths i first h = grind (arith, drop_all, earlier_none)

-- ---- places in a name

same_end : (from many place : ℕ) → place ≤ from + 1 + many → place ≤ from + suc many
same_end from many place h = omega arith

at_zero : (many place : ℕ) → place ≤ 0 + many → place ≤ many
at_zero many place h = omega arith

-- what is found is among the numbers
found_from : (test : ℕ → Bool) (many from : ℕ) → IfSome (find test (range_with_len from many)) (λ place. from ≤ place)
found_from test zero from = tt
found_from test (suc many) from = grind (arith, if_found, IfSome_then, one_before, found_from test many (from + 1))

-- and before their end
found_before : (test : ℕ → Bool) (many from : ℕ) → IfSome (find test (range_with_len from many)) (λ place. place ≤ from + many)
found_before test zero from = tt
found_before test (suc many) from = grind (arith, if_found, IfSome_then, same_end, found_before test many (from + 1))

pub cut_within : (suffixes : List Text) (name : Text) (found : Option ℕ) → found ≡ suffix_cut suffixes name → IfSome found (λ place. place ≤ length name)
cut_within suffixes name found e =
    subst (λ o. IfSome o (λ place. place ≤ length name)) (sym e)
    (IfSome_then (suffix_cut suffixes name) (found_before (is_cut_at suffixes name) (length name) 0) (at_zero (length name)))

-- the first place that passes one of two tests
either : (p q c : ℕ → Bool) (many from : ℕ)
    → find (λ place. (p place || q place) && c place) (range_with_len from many)
    ≡ earlier (find (λ place. p place && c place) (range_with_len from many)) (find (λ place. q place && c place) (range_with_len from many))
either p q c zero from = refl
either p q c (suc many) from = grind (arith, either_step, found_from, either p q c many (from + 1))

none_found : (test : ℕ → Bool) (many from : ℕ) → ((place : ℕ) → place < from + many → test place ≡ false) → find test (range_with_len from many) ≡ None
none_found test zero from h = refl
none_found test (suc many) from h =
    ap (λ b. cond b (Some from) (find test (range_with_len (from + 1) many))) (h from (omega arith))
    ∙ none_found test many (from + 1) (λ place low. h place (omega arith))

same_found : (one other : ℕ → Bool) (many from : ℕ) → ((place : ℕ) → place < from + many → one place ≡ other place)
    → find one (range_with_len from many) ≡ find other (range_with_len from many)
same_found one other zero from h = refl
same_found one other (suc many) from h =
    ap (λ b. cond b (Some from) (find one (range_with_len (from + 1) many))) (h from (omega arith))
    ∙ ap (λ o. cond (other from) (Some from) o) (same_found one other many (from + 1) (λ place low. h place (omega arith)))

later : (test : ℕ → Bool) (from only : ℕ) → test only ≡ true → from ≤ only → test from ≡ false → from + 1 ≤ only
later test from only t low e = grind (arith, nat_lt, ltb-true, ltb-false, true≢false)

first_or_later : (from only : ℕ) (found : Option ℕ) (b : Bool) → (b ≡ true → from ≡ only) → (b ≡ false → found ≡ Some only) → cond b (Some from) found ≡ Some only
first_or_later from only found b one other = grind arith

one_found : (test : ℕ → Bool) (many from only : ℕ) → from ≤ only → only < from + many → test only ≡ true
    → ((place : ℕ) → place < from + many → test place ≡ true → place ≡ only) → find test (range_with_len from many) ≡ Some only
one_found test zero from only a b t h = absurd (omega arith)
one_found test (suc many) from only a b t h =
    first_or_later from only (find test (range_with_len (from + 1) many)) (test from) (h from (omega arith))
    (λ e. one_found test many (from + 1) only (later test from only t a e) (omega arith) t (λ place low. h place (omega arith)))

-- ---- names cut into two suffixes

from_zero : (place many : ℕ) → place < 0 + many → place < many
from_zero place many h = omega arith

-- all suffixes are found by their lengths
pub all_cuts : (suffixes : List Text) (lengths : List ℕ) (name : Text) → HaveLengths suffixes lengths → first_cut suffixes lengths name ≡ suffix_cut suffixes name
unfolding first_cut
all_cuts suffixes lengths name have = grind (arith, same_found, length, from_zero, take, length-take-le, true≢false)

no_cut : (suffixes : List Text) (name : Text) → first_cut suffixes [] name ≡ None
unfolding first_cut
no_cut suffixes name = none_found (λ place. false) (length name) 0 (λ place low. refl)

-- one more length
more_cuts : (suffixes : List Text) (front : ℕ) (lengths : List ℕ) (name : Text)
    → first_cut suffixes (front ∷ lengths) name ≡ earlier (cut_after suffixes name front) (first_cut suffixes lengths name)
unfolding first_cut cut_after
more_cuts suffixes front lengths name = search (rules, either, nat_eq, length)

-- the lengths from a place on, and none
pub cut_at : (suffixes : List Text) (lengths : List ℕ) (i front : ℕ) (name : Text) (first cut next : Option ℕ) → i < length lengths
    → front ≡ get_or lengths i 0 → cut ≡ cut_after suffixes name front → next ≡ earlier first cut
    → earlier next (first_cut suffixes (drop (i + 1) lengths) name) ≡ earlier first (first_cut suffixes (drop i lengths) name)
cut_at suffixes lengths i front name =
    tried (λ ns. first_cut suffixes ns name) (λ n. cut_after suffixes name n) (λ n ns. more_cuts suffixes n ns name) lengths i front

pub cut_end : (suffixes : List Text) (lengths : List ℕ) (i : ℕ) (name : Text) (first : Option ℕ) → length lengths ≤ i
    → earlier first (first_cut suffixes (drop i lengths) name) ≡ first
cut_end suffixes lengths i name = all_tried (λ ns. first_cut suffixes ns name) (no_cut suffixes name) lengths i

-- a name is cut after a length at one place at most
pub cut_after_is : (suffixes : List Text) (name : Text) (front : ℕ)
    → cut_after suffixes name front ≡ (if is_cut_inside suffixes name front then Some front else None)
unfolding cut_after
cut_after_is suffixes name front = by (nat_lt front (length name)) (is_cut_at suffixes name front) refl refl
  where
    here : (cut : Bool) → cut ≡ true → is_cut_at suffixes name front ≡ cut → (nat_eq front front && is_cut_at suffixes name front) ≡ true
    here cut t c = ap (λ b. b && is_cut_at suffixes name front) (eq-eqb front front refl) ∙ c ∙ t

    at_front : (place : ℕ) → (nat_eq place front && is_cut_at suffixes name place) ≡ true → place ≡ front
    at_front place h = eqb-true place front (and_first (nat_eq place front) (is_cut_at suffixes name place) h)

    nowhere : (front < length name → is_cut_at suffixes name front ≡ false) → (place : ℕ) → place < length name → (b : Bool) → nat_eq place front ≡ b → (b && is_cut_at suffixes name place) ≡ false
    nowhere none place low true e =
        let same : place ≡ front = eqb-true place front e in
        ap (is_cut_at suffixes name) same ∙ none (subst (λ n. n < length name) same low)
    nowhere none place low false e = refl

    none_at : (front < length name → is_cut_at suffixes name front ≡ false) → (place : ℕ) → place < 0 + length name → (nat_eq place front && is_cut_at suffixes name place) ≡ false
    none_at none place low = nowhere none place (from_zero place (length name) low) (nat_eq place front) refl

    by : (low cut : Bool) → nat_lt front (length name) ≡ low → is_cut_at suffixes name front ≡ cut
        → find (λ place. nat_eq place front && is_cut_at suffixes name place) (range_with_len 0 (length name)) ≡ (if low && cut then Some front else None)
    by true true l c =
        let low : front < length name = ltb-true front (length name) l in
        one_found (λ place. nat_eq place front && is_cut_at suffixes name place) (length name) 0 front (omega arith) (omega arith) (here true refl c)
        (λ place less h. at_front place h)
    by true false l c = none_found (λ place. nat_eq place front && is_cut_at suffixes name place) (length name) 0 (none_at (λ low. c))
    by false cut l c =
        none_found (λ place. nat_eq place front && is_cut_at suffixes name place) (length name) 0
        (none_at (λ low. absurd (true≢false (sym (lt-ltb front (length name) low) ∙ l))))

-- ---- suffixes at the end of a name

place_found : (test : Text → Bool) (xs : List Text) (from : ℕ) → IfSome (position_from test from xs) (λ place. from ≤ place)
place_found test [] from = tt
place_found test (x ∷ xs) from = grind (arith, if_found, IfSome_then, one_before, place_found test xs (from + 1))

-- the first text that passes one of two tests
either_text : (p q c : Text → Bool) (xs : List Text) (from : ℕ)
    → position_from (λ x. (p x || q x) && c x) from xs ≡ earlier (position_from (λ x. p x && c x) from xs) (position_from (λ x. q x && c x) from xs)
either_text p q c [] from = refl
either_text p q c (x ∷ xs) from = grind (arith, either_step, place_found, either_text p q c xs (from + 1))

no_place : (xs : List Text) (from : ℕ) → position_from (λ x. false) from xs ≡ None
no_place [] from = refl
no_place (x ∷ xs) from = no_place xs (from + 1)

-- two tests that agree on all texts of a list
same_places : (one other : Text → Bool) (xs : List Text) (from : ℕ) → ((x : Text) → is_among xs x ≡ true → one x ≡ other x)
    → position_from one from xs ≡ position_from other from xs
same_places one other [] from h = refl
same_places one other (x ∷ xs) from h =
    ap (λ b. cond b (Some from) (position_from one (from + 1) xs)) (h x (or_left (pointwise nat_eq x x) (is_among xs x) (nat_list_eq_equiv.refl x)))
    ∙ ap (λ o. cond (other x) (Some from) o) (same_places one other xs (from + 1) (λ y e. h y (or_right (pointwise nat_eq y x) (is_among xs y) e)))

no_end : (suffixes : List Text) (name : Text) → first_end suffixes [] name ≡ None
unfolding first_end
no_end suffixes name = no_place suffixes 0

more_ends : (suffixes : List Text) (len : ℕ) (lengths : List ℕ) (name : Text)
    → first_end suffixes (len ∷ lengths) name ≡ earlier (end_of_length suffixes name len) (first_end suffixes lengths name)
unfolding first_end end_of_length
more_ends suffixes len lengths name = search (rules, either_text, nat_eq, length)

-- the lengths from a place on, and none
pub end_at : (suffixes : List Text) (lengths : List ℕ) (i len : ℕ) (name : Text) (first one next : Option ℕ) → i < length lengths
    → len ≡ get_or lengths i 0 → one ≡ end_of_length suffixes name len → next ≡ earlier first one
    → earlier next (first_end suffixes (drop (i + 1) lengths) name) ≡ earlier first (first_end suffixes (drop i lengths) name)
end_at suffixes lengths i len name =
    tried (λ ns. first_end suffixes ns name) (λ n. end_of_length suffixes name n) (λ n ns. more_ends suffixes n ns name) lengths i len

pub end_end : (suffixes : List Text) (lengths : List ℕ) (i : ℕ) (name : Text) (first : Option ℕ) → length lengths ≤ i
    → earlier first (first_end suffixes (drop i lengths) name) ≡ first
end_end suffixes lengths i name = all_tried (λ ns. first_end suffixes ns name) (no_end suffixes name) lengths i

-- a suffix of another length is not the end of that length
other_length : (name suffix : Text) (len : ℕ) → len ≤ length name → nat_eq (length suffix) len ≡ false → length (drop (length name - len) name) ≢ length suffix
other_length name suffix len low e same = grind (arith, length, length-drop, true≢false, eq-eqb)

-- a suffix of one length at the end of a name is the end of that length
end_same : (name suffix : Text) (len : ℕ) → len ≤ length name
    → (nat_eq (length suffix) len && ends_with nat_eq name suffix) ≡ pointwise nat_eq (drop (length name - len) name) suffix
end_same name suffix len low = search (rules, nat_eq, length, pointwise, eqb-true, other_length)

-- a longer text is not the end of a name
longer : (name suffix : Text) (len : ℕ) → length name < len → length suffix ≡ len → length suffix ≢ length (drop (length name - length suffix) name)
longer name suffix len more is same = grind (arith, length, length-drop)

-- none of a length ends a shorter name
end_longer : (name suffix : Text) (len : ℕ) → length name < len → (nat_eq (length suffix) len && ends_with nat_eq name suffix) ≡ false
end_longer name suffix len more = search (rules, nat_eq, length, longer, eqb-true)

-- the end of a length, among the suffixes
pub end_is : (suffixes : List Text) (name : Text) (len : ℕ) → len ≤ length name
    → end_of_length suffixes name len ≡ position (pointwise nat_eq (drop (length name - len) name)) suffixes
unfolding end_of_length
end_is suffixes name len low = grind (arith, same_places, nat_eq, length, pointwise, end_same, position_from-zero)

pub end_is_none : (suffixes : List Text) (name : Text) (len : ℕ) → length name < len → end_of_length suffixes name len ≡ None
unfolding end_of_length
end_is_none suffixes name len more = search (rules, same_places, nat_eq, length, end_longer, no_place)

-- the first that passes is at the first place that does
at_place : (test : Text → Bool) (xs : List Text) → find test xs ≡ option_and_then (slice_get xs) (position test xs)
at_place test xs = by (nat_lt (position_or_len test xs) (length xs)) refl
  where
    by : (b : Bool) → nat_lt (position_or_len test xs) (length xs) ≡ b → find test xs ≡ option_and_then (slice_get xs) (cond b (Some (position_or_len test xs)) None)
    by true e = folds.find_at test xs
    by false e = folds.find_at test xs ∙ slice_get_past xs (position_or_len test xs) (ltb-false (position_or_len test xs) (length xs) e)

-- all suffixes are found by their lengths
pub all_ends : (suffixes : List Text) (lengths : List ℕ) (name : Text) → HaveLengths suffixes lengths
    → find (λ suffix. ends_with nat_eq name suffix) suffixes ≡ option_and_then (slice_get suffixes) (first_end suffixes lengths name)
unfolding first_end
all_ends suffixes lengths name have = grind (arith, at_place, nat_eq, position_from-zero, same_places, length)
