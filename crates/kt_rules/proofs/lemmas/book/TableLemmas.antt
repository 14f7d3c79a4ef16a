-- The names of rules are among those that are held.
use Rattle.std.proofs.Common.{◌≡◌, ℕ, ◌<◌, List, [], ◌∷◌, length, map, get_or, Option, Some, None, refl, ap, sym, subst}
use Rattle.kt_rules.proofs.Common.{All, Contains, flat_map, All-append, All-head, All-map, All-nil, All-tail, All-weaker, Contains-get_or, Text, Kinds, Needs, RecipeLine, Entry, shared_needs, target_of, all_needs, AreNumbersOf, AreRuleNumbers, name_at, names_read, numbers_below, unwrap_or-slice_get, IsKnownRow, rule_held, rules_held}
use Rattle.kt_rules.proofs.lemmas.book.HeldLemmas.{rule_named}
use Rattle.kt_rules.specs.views.Known.{names_in}
use Rattle.kt_rules.specs.declared.book.row.Row.{Row}

-- names with numbers
numbered_among : (names : List Text) (numbers : List ℕ) (list : List Text) → AreNumbersOf names numbers list → All (Contains names) list
numbered_among names numbers list are =
    subst (All (Contains names)) (names_read names numbers list are)
    (All-map (Contains names) (name_at names) numbers
    (All-weaker (λ number. number < length names) (λ number. Contains names (name_at names number))
    (λ number within. subst (Contains names) (sym (unwrap_or-slice_get names number [])) (Contains-get_or names number [] within))
    numbers (numbers_below names numbers list are)))

-- targets have the names of their line
targets_named : (pattern : Option Text) (needs : Needs) (names : List Text) → map (λ target. target.name) (map (target_of pattern needs) names) ≡ names
targets_named pattern needs [] = refl
targets_named pattern needs (name ∷ names) = ap (λ xs. name ∷ xs) (targets_named pattern needs names)

-- what no static pattern gives anything
shared_among : (names : List Text) (pattern : Option Text) (needs : Needs) → All (Contains names) needs.prerequisites → All (Contains names) needs.order_only
    → All (Contains names) (all_needs (shared_needs pattern needs))
shared_among names None needs first second = All-append (Contains names) needs.prerequisites needs.order_only first second
shared_among names (Some pattern) needs first second = All-nil (Contains names)

-- the names of a rule
rule_among : (d : List Text × List (List ℕ)) (lines : List RecipeLine) (row : Row) (targets : List Text) (pattern : Option Text) (needs : Needs)
    → AreRuleNumbers d targets pattern needs row.numbers → All (Contains d.0) (names_in (rule_held d lines row))
rule_among d lines row targets pattern needs are =
    subst (λ (rule : Entry). All (Contains d.0) (names_in rule)) (sym (rule_named d lines row targets pattern needs are))
    (All-append (Contains d.0) (map (λ target. target.name) (map (target_of pattern needs) targets)) (all_needs (shared_needs pattern needs))
    (subst (All (Contains d.0)) (sym (targets_named pattern needs targets)) (numbered_among d.0 (get_or d.1 row.numbers.targets []) targets are.of_targets.numbers))
    (shared_among d.0 pattern needs
    (numbered_among d.0 (get_or d.1 row.numbers.needs.prerequisites []) needs.prerequisites are.of_needs.0.numbers)
    (numbered_among d.0 (get_or d.1 row.numbers.needs.order_only []) needs.order_only are.of_needs.1.numbers)))

-- those of all rules
pub all_among : (d : List Text × List (List ℕ)) (recipes : List (List RecipeLine)) (rows : List Row) (kinds : Kinds)
    → All (IsKnownRow kinds d) rows → All (Contains d.0) (flat_map names_in (rules_held d recipes rows))
all_among d [] rows kinds known = All-nil (Contains d.0)
all_among d (lines ∷ recipes) [] kinds known = All-nil (Contains d.0)
all_among d (lines ∷ recipes) (row ∷ rows) kinds known =
    let first = All-head (IsKnownRow kinds d) row rows known in
    All-append (Contains d.0) (names_in (rule_held d lines row)) (flat_map names_in (rules_held d recipes rows))
    (rule_among d lines row first.targets first.pattern first.needs first.told)
    (all_among d recipes rows kinds (All-tail (IsKnownRow kinds d) row rows known))
