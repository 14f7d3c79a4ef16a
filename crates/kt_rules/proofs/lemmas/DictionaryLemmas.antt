-- Names and lists of names by numbers.
use Rattle.std.proofs.Common.{rules, ◌≡◌, ℕ, Bool, true, false, if◌then◌else◌, List, [], ◌∷◌, ◌++◌, length, slice_get, get_or, Option, Some, option_map, sym, ap, ◌∙◌, subst, arith, length-append}
use Rattle.kt_rules.proofs.Common.{All, append-nil, append_assoc, get_or_append_left, All-push, All-weaker, get_or_from_slice_get, slice_get_within, number_found, Text, is_among, with_name, place_of, AreBelow, AreNumbersOf, name_at, name_read, number_stays, numbers_below, numbers_stay, GrowsDictionary, IsListOf, IsNumberOf}
use Rattle.kt_list.specs.views.Prefixes.{HasMore}

-- ---- lists that others begin with

pub more_none : {A : Type 0} (xs : List A) → HasMore xs xs
more_none xs = ([], sym (append-nil xs))

pub more_twice : {A : Type 0} (xs mid new : List A) → HasMore xs mid → HasMore mid new → HasMore xs new
more_twice xs mid new one two = grind (arith, append_assoc)

pub more_name : (names new : List Text) (name : Text) → new ≡ with_name names name → HasMore names new
more_name names new name is = search (rules, more_none)

pub grows_twice : (old mid new : List Text × List (List ℕ)) → GrowsDictionary old mid → GrowsDictionary mid new → GrowsDictionary old new
grows_twice old mid new one two = (more_twice old.0 mid.0 new.0 one.0 two.0, more_twice old.1 mid.1 new.1 one.1 two.1)

-- ---- numbers of names

pub number_stays_if : (names new : List Text) (number : Option ℕ) (name : Option Text) → HasMore names new → IsNumberOf names number name → IsNumberOf new number name
number_stays_if names new number name more is = grind (arith, number_stays)

pub number_named_if : (names : List Text) (number : Option ℕ) (name : Option Text) → IsNumberOf names number name → option_map (name_at names) number ≡ name
number_named_if names number name is = grind (arith, name_read)

-- ---- numbers of lists

pub list_stays : (old new : List Text × List (List ℕ)) (number : ℕ) (list : List Text) → GrowsDictionary old new → IsListOf old number list → IsListOf new number list
list_stays old new number list grew is =
    let same : get_or new.1 number [] ≡ get_or old.1 number []
    = ap (λ (lists : List (List ℕ)). get_or lists number []) grew.1.1 ∙ get_or_append_left old.1 grew.1.0 [] number is.within in
    record {
      within = omega (arith, is.within, ap length grew.1.1, length-append old.1 grew.1.0);
      numbers = subst (λ (own : List ℕ). AreNumbersOf new.0 own list) (sym same)
          (numbers_stay old.0 new.0 (get_or old.1 number []) list grew.0 is.numbers);
    }

-- lists of numbers of names stay so
pub below_more : (names new : List Text) (lists : List (List ℕ)) → HasMore names new → All (AreBelow (length names)) lists → All (AreBelow (length new)) lists
below_more names new lists more below = grind (arith, length, length-append, All-weaker)

-- one more list, unless it is there
module _ (names new : List Text) (lists lists' : List (List ℕ)) (numbers : List ℕ) (list : List Text)
    (more : HasMore names new) (are : AreNumbersOf new numbers list) (is : lists' ≡ with_name lists numbers) where
  pub list_below : All (AreBelow (length names)) lists → All (AreBelow (length new)) lists'
  list_below below = subst (All (AreBelow (length new))) (sym is) (by (is_among lists numbers))
    where
      by : (b : Bool) → All (AreBelow (length new)) (if b then lists else lists ++ numbers ∷ [])
      by true = below_more names new lists more below
      by false = All-push (AreBelow (length new)) lists numbers (below_more names new lists more below) (numbers_below new numbers list are)

  pub list_added : (number : ℕ) → Some number ≡ place_of lists' numbers → IsListOf (new, lists') number list
  list_added number at =
      let there : slice_get lists' number ≡ Some numbers = number_found lists' numbers number (sym at) in
      record {
        within = slice_get_within lists' number numbers there;
        numbers = subst (λ (own : List ℕ). AreNumbersOf new own list) (sym (get_or_from_slice_get lists' number numbers [] there)) are;
      }
