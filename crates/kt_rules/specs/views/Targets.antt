-- Targets, prerequisites and rules of the code as those of the definitions (kati's own).
use Rattle.std.specs.Prelude.{List, Option, Some, None, map, option_map}
use Rattle.std.specs.Borrow.{Bor}
use Rattle.kt_rules.specs.Prelude.{Text, Needs, Target, Entry}
use Rattle.kt_rules.specs.views.Prelude.{BookRule, rule_by, stemmed_names, target_of, without_dots}
use Rattle.kt_list.specs.views.Names.{names_at}
use Rattle.kt_text.specs.Functions.{with_stem}
use Rattle.kt_rules.specs.declared.listed.AnyNames.{AnyNames}
use Rattle.kt_rules.specs.declared.listed.AnyNames.TheVariants.{ByNumber, Own}
use Rattle.kt_rules.specs.declared.listed.ListedNeeds.{ListedNeeds}
use Rattle.kt_rules.specs.declared.needs.NeedsView.{NeedsView}
use Rattle.kt_rules.specs.declared.needs.NeededName.{NeededName}
use Rattle.kt_rules.specs.declared.needs.NeededNames.{NeededNames}
use Rattle.kt_rules.specs.declared.target.TargetView.{TargetView}
use Rattle.kt_rules.specs.declared.target.Targets.{Targets}
use Rattle.kt_rules.specs.declared.book.target_rule.TargetRule.{TargetRule}

-- names as they are held
abbrev pub listed_view : AnyNames → List Text
listed_view (Own names) = names.now
listed_view (ByNumber list) = names_at list.names.now list.numbers.now

abbrev pub listed_needs : ListedNeeds → Needs
listed_needs needs = record {
  prerequisites = listed_view needs.prerequisites;
  order_only = listed_view needs.order_only;
}

-- a text, if there is one
abbrev pub text_in : Option (Bor Text) → Option Text
text_in text = option_map (λ t. t.now) text

abbrev pub target_view : TargetView → Target
target_view target = target_of (text_in target.pattern) (listed_needs target.needs) target.name.now

-- the targets that remain
abbrev pub targets_view : Targets → List Target
targets_view targets = map (target_of (text_in targets.pattern) (listed_needs targets.needs)) (listed_view
    targets.names)

-- a name with the stem in place of its first percent sign, and then without leading `./`
abbrev pub stemmed_name : Text → Text → Text
stemmed_name stem name = without_dots (with_stem name stem)

-- a name as `stemmed_name` makes it if there is a stem, and otherwise as it is
abbrev pub name_put : Option (Bor Text) → Text → Text
name_put None name = name
name_put (Some stem) name = stemmed_name stem.now name

abbrev pub names_put : Option (Bor Text) → List Text → List Text
names_put None names = names
names_put (Some stem) names = stemmed_names stem.now names

-- the name of a prerequisite
abbrev pub needed_view : NeededName → Text
needed_view needed = name_put needed.stem needed.name.now

-- the names of prerequisites that remain
abbrev pub names_view : NeededNames → List Text
names_view needed = names_put needed.stem (listed_view needed.names)

-- the prerequisites of a target
abbrev pub needs_view : NeedsView → Needs
needs_view needs = record {
  prerequisites = names_put needs.stem (listed_view needs.needs.prerequisites);
  order_only = names_put needs.stem (listed_view needs.needs.order_only);
}

-- the prerequisites of a line, without a stem
abbrev pub line_needs : BookRule → Needs
line_needs rule = record {
  prerequisites = names_at rule.names.now rule.prerequisites.now;
  order_only = names_at rule.names.now rule.order_only.now;
}

-- a rule of a book
abbrev pub entry_view : BookRule → Entry
entry_view rule =
    rule_by rule.kind (names_at rule.names.now rule.targets.now) (text_in rule.pattern) (line_needs rule)
    (option_map (λ lines. lines.now) rule.recipe) rule.place.now

-- a rule of the code as one of the definitions
abbrev pub rule_view : TargetRule → Entry × Target
rule_view rule = (entry_view rule.entry, target_view rule.target)
