-- Pattern rules as the program holds them (kati's own).
use Rattle.std.specs.Prelude.{ℕ, Bool, map, List, [], filter_map, option_to_list, ◌≡◌, is_some, not, ◌&&◌}
use Rattle.std.specs.Prelude.{if◌then◌else◌}
use Rattle.kt_rules.specs.Prelude.{list_any, Text, Target, Entry}
use Rattle.kt_rules.specs.views.Prelude.{Vec, Global}
use Rattle.kt_rules.specs.declared.book.pattern.PatternForm.{PatternForm}
use Rattle.kt_rules.specs.declared.book.pattern_set.PatternKey.{PatternKey}
use Rattle.kt_rules.specs.declared.book.pattern_set.PatternSet.{PatternSet}
use Rattle.kt_rules.specs.Book.{is_made, target_rules, target_names, names_eq, suffix_rule_as_pattern}

-- a rule with the kind, targets and prerequisites of a pattern rule
abbrev pub form_view : Entry → PatternForm → Entry
form_view rule form =
    record {
      kind = form.kind;
      targets = form.targets.items;
      needs = form.needs;
      recipe = rule.recipe;
      place = rule.place;
    }

-- the suffix rules of a rule, as pattern rules
abbrev pub suffix_rules_in : List Text → Entry → List Entry
suffix_rules_in suffixes rule = filter_map (suffix_rule_as_pattern suffixes) (target_rules rule)

-- the suffix rule of a rule for one target, as a pattern rule, if it is one
abbrev pub suffix_rules_at : List Text → Entry → Target → List Entry
suffix_rules_at suffixes rule target =
    if is_made rule target then option_to_list (suffix_rule_as_pattern suffixes (rule, target)) else []

-- ---- pattern rules that are kept

-- names as they are held
abbrev pub held : List (Vec ℕ Global) → List Text
held names = map (λ name. name.items) names

-- a key has the targets and prerequisites of a rule
pub record IsKeyOf (rule : Entry) (key : PatternKey) : Type 0 where
  pub targets_held : held key.targets.items ≡ target_names rule
  pub prerequisites_held : held key.prerequisites.items ≡ rule.needs.prerequisites
  pub order_only_held : held key.order_only.items ≡ rule.needs.order_only

-- whether a rule has the targets and prerequisites of a key
abbrev pub has_repeated : Entry → PatternKey → Bool
has_repeated rule key =
    names_eq (target_names rule) (held key.targets.items)
    && (names_eq rule.needs.prerequisites (held key.prerequisites.items)
    && names_eq rule.needs.order_only (held key.order_only.items))

-- whether a set of pattern rules has one that the rule repeats
abbrev pub has_pattern : PatternSet → Entry → Bool
has_pattern set rule = list_any (has_repeated rule) set.keys.keys

-- whether a pattern rule is kept: it has a recipe, and none of the set repeats it
abbrev pub stays_before : PatternSet → Entry → Bool
stays_before past rule = is_some rule.recipe && not (has_pattern past rule)
