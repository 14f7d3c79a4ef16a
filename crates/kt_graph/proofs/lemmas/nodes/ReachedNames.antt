-- Reached names by their numbers among all names.
use Rattle.std.proofs.Common.{◌≡◌, ℕ, zero, suc, ◌+◌, ◌<◌, ◌≤◌, Bool, true, false, nat_eq, cond, if◌then◌else◌, List, [], ◌∷◌, ◌++◌, length, replicate, get_or, Option, Some, None, option_map, is_some, slice_get, Result, Ok, Err, IfOk, OnErr, OnOk, refl, sym, ap, ◌∙◌, subst, arith, length-append}
use Rattle.kt_graph.proofs.Common.{IsDistinct, position_from, option_or, unwrap_or, bytes_eq, eq-eqb, nat_list_eq_equiv, append_assoc, length-map, map-append, All-head, All-nil, All-push, All-tail, IsDistinct-push, slice_get-get_or, slice_get_within, IfOk-weaker, on_err_weaker, bytes_eq-Decides, AreBelow, is_among, place_of, with_name, number_found, Text, no_two, same_place, IsPlaced, IsPushed, IsReachedAt, ReachesNumber, StaysPlaced, place_held, place_marked, HasMore, name_at, names_at}
use Rattle.std.proofs.lemmas.Iterator.Adapters.{position_from-zero}
use Rattle.kt_graph.specs.declared.nodes.reached.ReachedNumbers.{ReachedNumbers}
use Rattle.kt_list.proofs.PrefixLemmas.{slice_get-left}

-- ---- places of names

from_after : (i : ℕ) (xs ys : List Text) (name : Text)
    → position_from (bytes_eq name) i (xs ++ ys) ≡ option_or (position_from (bytes_eq name) i xs) (position_from (bytes_eq name) (i + length xs) ys)
from_after i [] ys name = let here : i ≡ i + 0 = omega arith in ap (λ n. position_from (bytes_eq name) n ys) here
from_after i (x ∷ xs) ys name = grind (arith, length, from_after (i + 1) xs ys name)

from_shift : (i j : ℕ) (ys : List Text) (name : Text) → position_from (bytes_eq name) (i + j) ys ≡ option_map (λ n. i + n) (position_from (bytes_eq name) j ys)
from_shift i j [] name = refl
from_shift i j (y ∷ ys) name = grind (arith, from_shift i (j + 1) ys name)

-- the place in two lists, one after the other
pub place_after : (xs ys : List Text) (name : Text) → place_of (xs ++ ys) name ≡ option_or (place_of xs name) (option_map (λ n. length xs + n) (place_of ys name))
place_after xs ys name =
    let zero_on : 0 + length xs ≡ length xs + 0 = omega arith in
    position_from-zero (bytes_eq name) (xs ++ ys)
    ∙ from_after 0 xs ys name
    ∙ ap (λ n. option_or (position_from (bytes_eq name) 0 xs) (position_from (bytes_eq name) n ys)) zero_on
    ∙ ap (λ found. option_or (position_from (bytes_eq name) 0 xs) found) (from_shift (length xs) 0 ys name)
    ∙ ap (λ found. option_or (position_from (bytes_eq name) 0 xs) (option_map (λ n. length xs + n) found)) (sym (position_from-zero (bytes_eq name) ys))
    ∙ ap (λ found. option_or found (option_map (λ n. length xs + n) (place_of ys name))) (sym (position_from-zero (bytes_eq name) xs))

-- one more name stands last
place_last : (xs : List Text) (x name : Text) → place_of (xs ++ x ∷ []) name ≡ option_or (place_of xs name) (if bytes_eq name x then Some (length xs) else None)
place_last xs x name = grind (arith, place_after, length, position_from-zero, cond)

-- a name has a place exactly where it is among names
from_among : (i : ℕ) (names : List Text) (name : Text) → is_some (position_from (bytes_eq name) i names) ≡ is_among names name
from_among i [] name = refl
from_among i (x ∷ names) name = grind (arith, from_among (i + 1) names name)

pub placed_among : (names : List Text) (name : Text) → is_some (place_of names name) ≡ is_among names name
placed_among names name = ap is_some (position_from-zero (bytes_eq name) names) ∙ from_among 0 names name

pub place_within : (names : List Text) (name : Text) (n : ℕ) → place_of names name ≡ Some n → n < length names
place_within names name n at = slice_get_within names n name (number_found names name n at)

-- a name of the first list has its place there
pub place_first : (xs ys : List Text) (name : Text) (n : ℕ) → place_of xs name ≡ Some n → place_of (xs ++ ys) name ≡ Some n
place_first xs ys name n at = place_after xs ys name ∙ ap (λ found. option_or found (option_map (λ m. length xs + m) (place_of ys name))) at

-- another has it in the second
pub place_second : (xs ys : List Text) (name : Text) → place_of xs name ≡ None → place_of (xs ++ ys) name ≡ option_map (λ n. length xs + n) (place_of ys name)
place_second xs ys name none = place_after xs ys name ∙ ap (λ found. option_or found (option_map (λ m. length xs + m) (place_of ys name))) none

-- ---- names that come after others

names_longer : (names more : List Text) (numbers : List ℕ) → AreBelow (length names) numbers → names_at (names ++ more) numbers ≡ names_at names numbers
names_longer names more [] below = refl
names_longer names more (number ∷ numbers) below =
    let there = slice_get-get_or names number [] (All-head (λ n. n < length names) number numbers below) in
    let same : name_at (names ++ more) number ≡ name_at names number
    = ap (λ (found : Option Text). unwrap_or found []) (slice_get-left names more number (get_or names number []) there ∙ sym there) in
    ap (λ (name : Text). name ∷ names_at (names ++ more) numbers) same
    ∙ ap (λ (rest : List Text). name_at names number ∷ rest) (names_longer names more numbers (All-tail (λ n. n < length names) number numbers below))

below_longer : (count more : ℕ) (numbers : List ℕ) → count ≤ more → AreBelow count numbers → AreBelow more numbers
below_longer count more numbers h below = λ k d within. let one : get_or numbers k d < count = below k d within in omega (arith, one, h)

-- a mark of no name tells no place
beyond : (count : ℕ) (marks : List ℕ) → ((number : ℕ) → count ≤ number → get_or marks number 0 ≡ 0) → (found other : Option ℕ)
    → place_held marks (option_or found (option_map (λ n. count + n) other)) ≡ place_held marks found
beyond count marks free found other = grind arith

pub placed_more : (names more : List Text) (numbers marks : List ℕ) → IsPlaced names numbers marks → IsPlaced (names ++ more) numbers marks
placed_more names more numbers marks is =
    let same : names_at (names ++ more) numbers ≡ names_at names numbers = names_longer names more numbers is.below in
    let long : length (names ++ more) ≡ length names + length more = length-append names more in
    record {
      told = λ name.
          ap (λ (list : List Text). place_of list name) same ∙ is.told name
          ∙ sym (beyond (length names) marks is.free (place_of names name) (place_of more name))
          ∙ sym (ap (place_held marks) (place_after names more name));
      differ = subst (IsDistinct bytes_eq) (sym same) is.differ;
      below = below_longer (length names) (length (names ++ more)) numbers (omega (arith, long)) is.below;
      free = λ number past. is.free number (omega (arith, long));
    }

-- names come after a table's and others
pub others_more : (table old new : List Text) (numbers marks : List ℕ) → HasMore old new → IsPlaced (table ++ old) numbers marks → IsPlaced (table ++ new) numbers marks
others_more table old new numbers marks grown is =
    let all : table ++ new ≡ (table ++ old) ++ grown.0 = ap (λ (list : List Text). table ++ list) grown.1 ∙ sym (append_assoc table old grown.0) in
    subst (λ (names : List Text). IsPlaced names numbers marks) (sym all) (placed_more (table ++ old) grown.0 numbers marks is)

others_named : (table old new : List Text) (numbers marks : List ℕ) → HasMore old new → IsPlaced (table ++ old) numbers marks
    → names_at (table ++ new) numbers ≡ names_at (table ++ old) numbers
others_named table old new numbers marks grown is = grind (arith, append_assoc, names_longer)

-- ---- marks

no_mark : (count n : ℕ) → get_or (replicate {A = ℕ} count 0) n 0 ≡ 0
no_mark zero zero = refl
no_mark zero (suc n) = refl
no_mark (suc count) zero = refl
no_mark (suc count) (suc n) = no_mark count n

pub placed_none : (names : List Text) (numbers marks : List ℕ) (count : ℕ) → numbers ≡ [] → marks ≡ replicate count 0 → IsPlaced names numbers marks
unfolding IsDistinct
placed_none names numbers marks count none free = grind (arith, get_or, no_mark, All-nil, length)

-- ---- a name is reached

-- it was before
pub reached_before : (names : List Text) (reached : ReachedNumbers) (name : Text) (number place : ℕ) → Some place ≡ place_marked (get_or reached.marks.items number 0)
    → IsPlaced names reached.numbers.items reached.marks.items → place_of names name ≡ Some number
    → IsReachedAt names reached.numbers.items name reached place
reached_before names reached name number place marked is at =
    let view = names_at names reached.numbers.items in
    let there : place_of view name ≡ Some place = is.told name ∙ ap (place_held reached.marks.items) at ∙ sym marked in
    let among : is_among view name ≡ true = sym (placed_among view name) ∙ ap is_some there in
    record {
      placed = is;
      grown = rw among refl;
      at = number_found view name place there;
    }

-- it wasn't, and comes after the others
module _ (names : List Text) (old new : ReachedNumbers) (name : Text) (number place : ℕ) (unmarked : None ≡ place_marked (get_or old.marks.items number 0))
    (pushed : IsPushed old number new place) (is : IsPlaced names old.numbers.items old.marks.items) (at : place_of names name ≡ Some number) where
  there : slice_get names number ≡ Some name
  there = number_found names name number at

  within : number < length names
  within = place_within names name number at

  abbrev view : List Text
  view = names_at names old.numbers.items

  absent : place_of view name ≡ None
  absent = is.told name ∙ ap (place_held old.marks.items) at ∙ sym unmarked

  not_among : is_among view name ≡ false
  not_among = sym (placed_among view name) ∙ ap is_some absent

  longer : names_at names new.numbers.items ≡ view ++ name ∷ []
  longer = grind (arith, map-append, there)

  new_place : place_held new.marks.items (Some number) ≡ Some (length view)
  new_place = ap place_marked pushed.marked ∙ ap Some (pushed.last ∙ sym (length-map old.numbers.items (name_at names)))

  other_place : (other : Text) (b : Bool) → bytes_eq other name ≡ b
      → option_or (place_of view other) (if b then Some (length view) else None) ≡ place_held new.marks.items (place_of names other)
  other_place other true e = grind (arith, bytes_eq-Decides, length, absent, new_place)
  other_place other false e = alone (place_of view other) ∙ is.told other ∙ by (place_of names other) refl
    where
      alone : (found : Option ℕ) → option_or found None ≡ found
      alone None = refl
      alone (Some n) = refl

      by : (found : Option ℕ) → place_of names other ≡ found → place_held old.marks.items found ≡ place_held new.marks.items found
      by None found = refl
      by (Some m) found =
          let apart : nat_eq m number ≡ false = same_place names name other number m at there found ∙ e in
          ap place_marked (sym (pushed.others m (λ one. no_two (nat_eq m number) (eq-eqb m number one) apart ⊥)))

  reached_placed : IsPlaced names new.numbers.items new.marks.items
  reached_placed = record {
    told = λ other. ap (λ (list : List Text). place_of list other) longer ∙ place_last view name other ∙ other_place other (bytes_eq other name) refl;
    differ = subst (IsDistinct bytes_eq) (sym longer) (IsDistinct-push nat_list_eq_equiv view name is.differ not_among);
    below = subst (AreBelow (length names)) (sym pushed.numbers) (All-push (λ n. n < length names) old.numbers.items number is.below within);
    free = λ other past. pushed.others other (λ one. absurd (omega (arith, one, past, within))) ∙ is.free other past;
  }

  pub reached_now : IsReachedAt names old.numbers.items name new place
  reached_now = record {
    placed = reached_placed;
    grown = longer ∙ (rw not_among refl);
    at = number_found (names_at names new.numbers.items) name place
        (reached_placed.told name ∙ ap (place_held new.marks.items) at ∙ ap place_marked pushed.marked);
  }

-- what holds whether a call was refused or not
in_both : {A E : Type 0} (P : Type 0) (result : Result A E) → IfOk result (λ x. P) → OnErr result P → P
in_both P (Ok x) done refused = done
in_both P (Err e) done refused = refused

-- a name that has a number among a table's and others is reached
module _ {E : Type 0} (table others more view : List Text) (grown : HasMore others more) (old new : ReachedNumbers) (name : Text) (number : ℕ) (result : Result ℕ E)
    (told : names_at (table ++ others) old.numbers.items ≡ view) (is : IsPlaced (table ++ others) old.numbers.items old.marks.items)
    (at : place_of (table ++ more) name ≡ Some number) (done : IfOk result (ReachesNumber old number new)) (refused : OnErr result (StaysPlaced old new)) where
  placed : IsPlaced (table ++ more) old.numbers.items old.marks.items
  placed = others_more table others more old.numbers.items old.marks.items grown is

  reached_at : IfOk result (IsReachedAt (table ++ more) old.numbers.items name new)
  reached_at = grind (arith, IfOk-weaker, placed)

  pub step_placed : IsPlaced (table ++ more) new.numbers.items new.marks.items
  step_placed = grind (arith, in_both, IfOk-weaker, there, reached_at, on_err_weaker, placed)

  pub step_numbered : IfOk result (λ place. slice_get (names_at (table ++ more) new.numbers.items) place ≡ Some name)
  step_numbered = grind (arith, IfOk-weaker, there, reached_at)

  pub step_reached : OnOk result (names_at (table ++ more) new.numbers.items ≡ with_name view name)
  step_reached =
      IfOk-weaker result (IsReachedAt (table ++ more) old.numbers.items name new) (λ place. names_at (table ++ more) new.numbers.items ≡ with_name view name)
      (λ place there. there.grown ∙ ap (λ (names : List Text). with_name names name)
      (others_named table others more old.numbers.items old.marks.items grown is ∙ told)) reached_at
