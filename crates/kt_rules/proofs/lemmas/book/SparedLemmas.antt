-- Targets at which nobody has to look.
use Rattle.std.proofs.Common.{arith, ◌≡◌, Bool, true, false, cond, ◌&&◌, List, [], ◌∷◌, ◌++◌, map, filter, find, None, Option, Some, refl, sym, ◌∙◌, ap}
use Rattle.kt_rules.proofs.Common.{All, append-nil, filter_map, list_any, Text, Kind, Needs, RecipeLine, Entry, rule_by, target_of, stemmed_of, is_bare, is_made, made_targets, is_double, is_group, rules_of, recipes_of, differ_in_colons, is_beside_group, both_colons_in, beside_group_in, suffix_rule_as_pattern, entry_view, line_needs, names_at, option_map}
use Rattle.kt_rules.specs.inner.Patterns.{suffix_rules_in}
use Rattle.kt_rules.specs.views.Prelude.{BookRule}
use Rattle.kt_rules.specs.views.Targets.{text_in}
use Rattle.kt_rules.specs.declared.place.Place.{Place}
use Rattle.kt_rules.specs.inner.SuffixCuts.{may_be_bare}
use Rattle.kt_rules.proofs.lemmas.book.GoalLemmas.{none_beside, none_differs}

-- ---- refusals

find_nothing : {A : Type 0} (test : A → Bool) (xs : List A) → ((x : A) → test x ≡ false) → find test xs ≡ None
find_nothing test [] none = refl
find_nothing test (x ∷ xs) none = rw (none x) (find_nothing test xs none)

-- where no rule has two colons, no target has rules with both
pub none_of_both : (rules : List Entry) (rule : Entry) → is_double rule.kind ≡ false → All (λ one. is_double one.kind ≡ false) rules
    → both_colons_in rules rule ≡ None
none_of_both rules rule own none =
    find_nothing (λ target. list_any (differ_in_colons rule) (rules_of rules target.name)) (made_targets rule) (λ target. none_differs rules rule target.name own none)

-- where there is no group, no target is beside one
pub none_by_groups : (rules : List Entry) (rule : Entry) → is_group rule.kind ≡ false → All (λ one. is_group one.kind ≡ false) rules
    → beside_group_in rules rule ≡ None
none_by_groups rules rule own none =
    find_nothing (λ target. list_any (is_beside_group rule) (recipes_of rules target.name)) (made_targets rule) (λ target. none_beside rules rule target.name own none)

-- ---- suffix rules

less_said : (a b c : Bool) → (a && (b && true)) ≡ false → (a && (b && c)) ≡ false
less_said a b c h = grind arith

-- a rule that can't have the form of a suffix rule has it for no target
bare_none : (kind : Kind) (targets : List Text) (pattern : Option Text) (needs : Needs) (recipe : Option (List RecipeLine)) (place : Place) (name : Text)
    → may_be_bare (rule_by kind targets pattern needs recipe place) ≡ false
    → is_bare (rule_by kind targets pattern needs recipe place, target_of pattern needs name) ≡ false
unfolding stemmed_of
bare_none kind targets None needs recipe place name h = h
bare_none kind targets (Some text) needs recipe place name h = less_said _ _ _ h

none_made : (suffixes : List Text) (rule : Entry) (pattern : Option Text) (needs : Needs) (names : List Text)
    → ((name : Text) → is_bare (rule, target_of pattern needs name) ≡ false)
    → filter_map (suffix_rule_as_pattern suffixes) (map (λ target. (rule, target)) (filter (is_made rule) (map (target_of pattern needs) names))) ≡ []
none_made suffixes rule pattern needs [] none = refl
none_made suffixes rule pattern needs (name ∷ names) none = grind (arith, cond, none, none_made suffixes rule pattern needs names none)

-- so it has no suffix rules
pub no_suffix_rules : (suffixes : List Text) (rule : BookRule) → may_be_bare (entry_view rule) ≡ false → suffix_rules_in suffixes (entry_view rule) ≡ []
no_suffix_rules suffixes rule h =
    none_made suffixes (entry_view rule) (text_in rule.pattern) (line_needs rule) (names_at rule.names.now rule.targets.now)
    (λ name. bare_none rule.kind (names_at rule.names.now rule.targets.now) (text_in rule.pattern) (line_needs rule) (option_map (λ lines. lines.now) rule.recipe) rule.place.now name h)

pub none_appended : (suffixes : List Text) (rule : BookRule) (patterns : List Entry) → may_be_bare (entry_view rule) ≡ false
    → patterns ≡ patterns ++ suffix_rules_in suffixes (entry_view rule)
none_appended suffixes rule patterns h = sym (ap (λ more. patterns ++ more) (no_suffix_rules suffixes rule h) ∙ append-nil patterns)
