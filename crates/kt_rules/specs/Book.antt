-- The rules of a makefile as a list, and lookups in it (POSIX.1-2024 make, "Target Rules"; GNU make manual, "Rules").
use Rattle.std.specs.Prelude.{Bool, true, false, not, ◌&&◌, ◌||◌, ◌==◌, List, [], ◌∷◌, ◌++◌, map, filter, find}
use Rattle.std.specs.Prelude.{flat_map, filter_map, codes, bytes_eq, Option, Some, None, option_map, is_some, is_none}
use Rattle.std.specs.Prelude.{Result, Ok, Err, if◌then◌else◌}
use Rattle.kt_rules.specs.Prelude.{list_any, option_or, option_map_or, Text, Kind, DoubleColon, Group, Pattern}
use Rattle.kt_rules.specs.Prelude.{TerminalPattern, Target, Place, Entry}
use Rattle.std.specs.Cmp.Lexicographic.{pointwise}
use Rattle.kt_rules.specs.Names.{is_among, is_special}
use Rattle.kt_rules.specs.Places.{place_text}
use Rattle.kt_rules.specs.Refusals.{Refusal, RuleLineFault, bad_group, both_colons, two_recipes, rule_line_fault}
use Rattle.kt_rules.specs.Suffixes.{special_needs, suffixes_of, suffix_patterns, is_single, is_bare, is_suffix_rule}

-- whether a rule has a double colon
abbrev pub is_double : Kind → Bool
is_double DoubleColon = true
is_double other = false

-- whether a rule is a group, whose recipe makes all targets at once
abbrev pub is_group : Kind → Bool
is_group Group = true
is_group other = false

-- whether a rule is a pattern rule, terminal or not
abbrev pub is_pattern : Kind → Bool
is_pattern Pattern = true
is_pattern TerminalPattern = true
is_pattern other = false

-- whether a rule is terminal: no implicit rule is searched for to make the prerequisites
abbrev pub is_terminal : Kind → Bool
is_terminal TerminalPattern = true
is_terminal other = false

-- whether a rule makes a target by name: a pattern rule doesn't, and a special target isn't made
abbrev pub is_made : Entry → Target → Bool
is_made rule target = not (is_pattern rule.kind) && not (is_special target.name)

-- the targets that a rule makes by name
abbrev pub made_targets : Entry → List Target
made_targets rule = filter (is_made rule) rule.targets

-- a rule with each target that it makes by name: several targets are separate rules (POSIX.1-2024 make, "Target Rules")
abbrev pub target_rules : Entry → List (Entry × Target)
target_rules rule = map (λ target. (rule, target)) (made_targets rule)

-- the rules of a target, in order, suffix rules among them
unfoldable pub rules_of : List Entry → Text → List (Entry × Target)
rules_of rules name = filter (λ made. bytes_eq name made.1.name) (flat_map target_rules rules)

-- whether the rule of a target has a recipe
abbrev pub has_recipe : Entry × Target → Bool
has_recipe made = is_some made.0.recipe

-- the rules of a target that have a recipe
unfoldable pub recipes_of : List Entry → Text → List (Entry × Target)
recipes_of rules name = filter has_recipe (rules_of rules name)

-- the explicit rules of a target, in order: the suffixes after all rules decide which are suffix rules
unfoldable pub explicit_rules : List Entry → Text → List (Entry × Target)
explicit_rules rules name = filter (λ made. not (is_suffix_rule (suffixes_of rules) name made)) (rules_of rules name)

-- whether a rule is explicit for one of its targets, given the suffixes
abbrev pub is_explicit : List Text → Entry × Target → Bool
is_explicit suffixes made = is_made made.0 made.1 && not (is_suffix_rule suffixes made.1.name made)

-- the phony names: the prerequisites of the special target `.PHONY` (POSIX.1-2024 make, "Special Targets")
abbrev pub phony_of : Entry → List Text
phony_of rule = option_map_or (λ names. names) (special_needs (codes ".PHONY") rule) []

-- whether a name is phony: a prerequisite of `.PHONY` in any of the rules
unfoldable pub is_phony : List Entry → Text → Bool
is_phony rules name = is_among (flat_map phony_of rules) name

-- a name that may be special, and isn't the default goal by itself
abbrev pub begins_with_dot : Text → Bool
begins_with_dot [] = false
begins_with_dot (byte ∷ name) = byte == 46

-- whether a name may be the default goal: it doesn't begin with a dot, or it holds a slash (GNU make manual, "How
-- `make` Processes a Makefile")
abbrev pub may_be_goal : Text → Bool
may_be_goal name = not (begins_with_dot name) || list_any (λ byte. byte == 47) name

-- whether a rule is explicit, and its target may be the default goal
abbrev pub is_goal : List Text → Entry × Target → Bool
is_goal suffixes made = may_be_goal made.1.name && not (is_suffix_rule suffixes made.1.name made)

-- the first target of all rules that may be the default goal, given the suffixes
unfoldable pub first_goal_by : List Text → List Entry → Option Text
first_goal_by suffixes rules = option_map (λ made. made.1.name) (find (is_goal suffixes) (flat_map target_rules rules))

-- the first target of an explicit rule that may be the default goal
abbrev pub first_goal_of : List Entry → Option Text
first_goal_of rules = first_goal_by (suffixes_of rules) rules

-- ---- one more rule

-- whether exactly one of the two holds
abbrev pub xor : Bool → Bool → Bool
xor true b = not b
xor false b = b

-- whether one of two rules of a target has one colon, and the other two
abbrev pub differ_in_colons : Entry → Entry × Target → Bool
differ_in_colons rule earlier = xor (is_double earlier.0.kind) (is_double rule.kind)

-- the first target that has rules with the other number of colons (GNU make manual, "Double-Colon Rules")
abbrev pub both_colons_in : List Entry → Entry → Option Target
both_colons_in rules rule = find (λ target. list_any (differ_in_colons rule) (rules_of rules target.name))
    (made_targets rule)

-- whether one of two rules of a target is a group's
abbrev pub is_beside_group : Entry → Entry × Target → Bool
is_beside_group rule earlier = is_group rule.kind || is_group earlier.0.kind

-- the first target that gets a second recipe, where one of the two is a group's (kati's own)
abbrev pub beside_group_in : List Entry → Entry → Option Target
beside_group_in rules rule = find (λ target. list_any (is_beside_group rule) (recipes_of rules target.name))
    (made_targets rule)

-- the first target that gets a second recipe beside a group's; none if the new rule has no recipe
abbrev pub two_recipes_in : List Entry → Entry → Option Target
two_recipes_in rules rule = if is_some rule.recipe then beside_group_in rules rule else None

-- why a rule is refused after others, if it is: first, a group without a recipe
unfoldable pub refusal_of : List Entry → Entry → Option Refusal
refusal_of rules rule =
    if is_group rule.kind && is_none rule.recipe then Some bad_group
    else option_or (option_map (λ target. both_colons target.name) (both_colons_in rules rule))
    (option_map (λ target. two_recipes target.name) (two_recipes_in rules rule))

-- the targets for which a rule with one colon gives a second recipe; an earlier rule with a recipe also has one colon,
-- or this one would be refused (GNU make manual, "Multiple Rules for One Target")
abbrev pub targets_with_recipe : List Entry → Entry → List Target
targets_with_recipe rules rule = filter
    (λ target. list_any (λ earlier. true) (recipes_of rules target.name)) (made_targets rule)

-- the targets whose recipe a rule overrides: only a rule with one colon and a recipe overrides any
abbrev pub overridden_targets : List Entry → Entry → List Target
overridden_targets rules rule = if is_single rule.kind && is_some rule.recipe
    then targets_with_recipe rules rule else []

-- the warning that the recipe for a target is overridden; its form is kati's own
abbrev pub override_message : Place → Target → Text
override_message place target = place_text place ++ (codes ": warning: overriding recipe for target '"
    ++ (target.name ++ 39 ∷ []))

-- the warnings for all targets whose recipe a rule overrides
abbrev pub override_messages : List Entry → Entry → List Text
override_messages rules rule = map (override_message rule.place) (overridden_targets rules rule)

-- what `add` returns: the warnings, or the fault
abbrev pub added : List Entry → Entry → Option Refusal → Result (List Text) RuleLineFault
added rules rule None = Ok (override_messages rules rule)
added rules rule (Some refusal) = Err (rule_line_fault rule.place refusal)

-- ---- pattern rules

-- whether two lists have the same names in the same order
abbrev pub names_eq : List Text → List Text → Bool
names_eq = pointwise bytes_eq

-- the names of a rule's targets, in order
abbrev pub target_names : Entry → List Text
target_names rule = map (λ target. target.name) rule.targets

-- whether two pattern rules have the same targets and prerequisites, in the same order and with the same repeats (GNU
-- make manual, "Canceling Implicit Rules")
abbrev pub repeats : Entry → Entry → Bool
repeats earlier later =
    names_eq (target_names earlier) (target_names later)
    && (names_eq earlier.needs.prerequisites later.needs.prerequisites
    && names_eq earlier.needs.order_only later.needs.order_only)

-- a suffix rule as a pattern rule, given the patterns of its target and prerequisite
abbrev pub pattern_rule : Entry → Text × Text → Entry
pattern_rule rule patterns = record {
  kind = Pattern;
  targets = record { name = patterns.0; stemmed = None } ∷ [];
  needs = record { prerequisites = patterns.1 ∷ []; order_only = [] };
  recipe = rule.recipe;
  place = rule.place;
}

-- a target's suffix rule as a pattern rule, if it is one
abbrev pub suffix_rule_as_pattern : List Text → Entry × Target → Option Entry
suffix_rule_as_pattern suffixes made =
    if is_bare made then option_map (pattern_rule made.0) (suffix_patterns suffixes made.1.name) else None

-- the pattern rules of a rule: itself, or its suffix rules as pattern rules
abbrev pub patterns_in : List Text → Entry → List Entry
patterns_in suffixes rule =
    if is_pattern rule.kind then rule ∷ [] else filter_map (suffix_rule_as_pattern suffixes) (target_rules rule)

-- the rules with a recipe that no later one repeats
abbrev pub unrepeated : List Entry → List Entry
unrepeated [] = []
unrepeated (rule ∷ rules) =
    if is_some rule.recipe && not (list_any (repeats rule) rules) then rule ∷ unrepeated rules else unrepeated rules

-- the pattern rules of a list of rules, suffix rules in their places, as the search takes them (GNU make manual,
-- "Pattern Rules")
unfoldable pub patterns_of : List Entry → List Entry
patterns_of rules = unrepeated (flat_map (patterns_in (suffixes_of rules)) rules)
