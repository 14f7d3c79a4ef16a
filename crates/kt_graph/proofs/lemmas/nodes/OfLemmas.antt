-- Explicit rules of a name are of targets with this name.
use Rattle.std.proofs.Common.{arith, rules, ◌≡◌, ◌<◌, ◌∙◌, ℕ, Bool, List, [], ◌∷◌, length, get_or, map, filter, cond, not, Option, None, Some, IfSome, ap, sym, subst}
use Rattle.kt_graph.proofs.Common.{last_or, bytes_eq, flat_map, get_or-map, length-map, All-cons, All-filter, All-head, All-nil, All-tail, bytes_eq-Decides, none-some, same_Some, Text, Target, Entry, explicit_rules, has_recipe, is_suffix_rule, rule_view, rules_of, suffixes_of, target_rules, used_rule, AreOf}
use Rattle.kt_rules.specs.declared.book.target_rule.TargetRule.{TargetRule}

abbrev IsOf : Text → Entry × Target → Type 0
IsOf name made = made.1.name ≡ name

abbrev names_it : Text → Entry × Target → Bool
names_it name made = bytes_eq name made.1.name

those_of : (name : Text) (rules : List (Entry × Target)) → AreOf name (filter (names_it name) rules)
those_of name [] = All-nil (IsOf name)
those_of name (made ∷ rules) = grind (arith, cond, All-cons, bytes_eq-Decides, those_of name rules)

pub explicit_of : (rules : List Entry) (name : Text) (made : List (Entry × Target)) → made ≡ explicit_rules rules name → AreOf name made
unfolding explicit_rules rules_of
explicit_of rules name made is =
    subst (AreOf name) (sym is)
    (All-filter (λ one. not (is_suffix_rule (suffixes_of rules) name one)) (IsOf name) (rules_of rules name) (those_of name (flat_map target_rules rules)))

pub rule_of : (name : Text) (rules : List TargetRule) (place : ℕ) (rule : TargetRule) → AreOf name (map rule_view rules) → place < length rules
    → rule ≡ get_or rules place rule → IsOf name (rule_view rule)
rule_of name rules place rule all within at =
    ap (λ (one : TargetRule). (rule_view one).1.name) at
    ∙ ap (λ (made : Entry × Target). made.1.name) (sym (get_or-map rule_view rules place rule (rule_view rule) within))
    ∙ all place (rule_view rule) (subst (λ n. place < n) (sym (length-map rules rule_view)) within)

last_of : (name : Text) (rules : List (Entry × Target)) (before : Option (Entry × Target)) (made : Entry × Target) → AreOf name rules → IfSome before (IsOf name)
    → last_or before rules ≡ Some made → IsOf name made
last_of name [] None made all first is = absurd (none-some made is)
last_of name [] (Some one) made all first is = subst (IsOf name) (same_Some one made is) first
last_of name (one ∷ rules) before made all first is = grind (arith, All-tail, All-head, last_of name rules (Some one) made (All-tail (IsOf name) one rules all) (All-head (IsOf name) one rules all) is)

-- so is the one whose recipe is used
pub used_of : (name : Text) (rules : List (Entry × Target)) (made : Entry × Target) → AreOf name rules → used_rule rules ≡ Some made → IsOf name made
used_of name rules made all is = last_of name (filter has_recipe rules) None made (All-filter has_recipe (IsOf name) rules all) tt is
