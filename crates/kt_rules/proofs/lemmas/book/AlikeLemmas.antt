-- Explicit rules that need the same, told by their places.
use Rattle.std.proofs.Common.{arith, rules, ◌≡◌, ℕ, Bool, false, if◌then◌else◌, is_some, subst, List, [], ◌∷◌, length, Option, Some, None, option_map, slice_get, refl, sym}
use Rattle.kt_rules.proofs.Common.{option_and_then, Spot, Target, Entry, rule_held, Text, RecipeLine, explicit_left, spot_rule, target_rule, is_bare}
use Rattle.kt_rules.specs.inner.Alike.{AreAlike, HaveSameNeeds, IsCommon, NeedSame, SaySame, common_needs}
use Rattle.kt_rules.specs.declared.book.row.Row.{Row}

rule_of_target : (rule : Entry) (target : Option Target) (made : Entry × Target) → option_map (λ t. (rule, t)) target ≡ Some made → rule ≡ made.0
rule_of_target rule target made is = grind arith

rule_found : (slot : Option Entry) (number : ℕ) (made : Entry × Target) → option_and_then (λ rule. target_rule rule number) slot ≡ Some made → slot ≡ Some made.0
rule_found slot number made is = grind (arith, rule_of_target)

-- rules that say the same of all their targets need the same, where no target has a stem
pub alike_by_entry : (rules : List Entry) (spot other : Spot) (first second : Entry × Target) → SaySame (slice_get rules spot.entry) (slice_get rules other.entry)
    → Some first ≡ spot_rule rules spot → Some second ≡ spot_rule rules other → IsCommon first → IsCommon second → AreAlike rules spot other
alike_by_entry rules spot other first second say first_is second_is common common_too =
    let one = rule_found (slice_get rules spot.entry) spot.target first (sym first_is) in
    let two = rule_found (slice_get rules other.entry) other.target second (sym second_is) in
    let said : common_needs first.0 ≡ common_needs second.0
    = subst (λ (slot : Option Entry). SaySame (Some first.0) slot) two (subst (λ (slot : Option Entry). SaySame slot (slice_get rules other.entry)) one say) in
    record {
      first = first;
      second = second;
      first_is = sym first_is;
      second_is = sym second_is;
      first_explicit = common.explicit;
      second_explicit = common_too.explicit;
      same = rw (common.stemless, common_too.stemless) said;
    }

either : (b : Bool) (own lines : List RecipeLine) → is_some (if b then Some own else None) ≡ is_some (if b then Some lines else None)
either b own lines = grind arith

-- rules with the same prerequisites say the same
pub same_listed : (d : List Text × List (List ℕ)) (own lines : List RecipeLine) (row other : Row) → HaveSameNeeds row other
    → common_needs (rule_held d own row) ≡ common_needs (rule_held d lines other)
same_listed d own lines row other same = grind (arith, either)

found_cons : (rules : List Entry) (skips : Bool) (spot : Spot) (spots : List Spot) (made : Entry × Target) → spot_rule rules spot ≡ Some made
    → is_bare made ≡ false → explicit_left skips rules (spot ∷ spots) ≡ made ∷ explicit_left skips rules spots
unfolding explicit_left
found_cons rules skips spot spots made is explicit = rw (is, explicit) refl

-- one more pair of spots
pub alike_more : (rules : List Entry) (spots others : List Spot) (spot other : Spot) (left after : List Spot) → spots ≡ spot ∷ left → others ≡ other ∷ after
    → AreAlike rules spot other → NeedSame rules left after → NeedSame rules spots others
alike_more rules spots others spot other left after is others_is alike rest = grind (arith, found_cons)

-- no spots
pub alike_none : (rules : List Entry) (left others : List Spot) → length left ≡ 0 → length others ≡ 0 → NeedSame rules left others
unfolding explicit_left
alike_none rules [] [] none others_none = λ skips more. refl
alike_none rules [] (other ∷ others) none others_none = cc
alike_none rules (spot ∷ left) others none others_none = cc
