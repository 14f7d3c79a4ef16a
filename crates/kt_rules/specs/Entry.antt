-- What an entry of the book says (POSIX.1-2024 make, "Target Rules"; GNU make manual, "Rule Syntax").
use Rattle.std.specs.Prelude.{Bool, true, false, ◌==◌, List, [], ◌∷◌, ◌++◌, length, map, Option, Some, None, option_map}
use Rattle.std.specs.Prelude.{Result, Ok, Err, if◌then◌else◌}
use Rattle.std.specs.List.{list_any, slice_range}
use Rattle.std.specs.Option.{option_and_then}
use Rattle.kt_text.specs.Words.{Text, words_of}
use Rattle.kt_text.specs.Match.{has_percent, stem_span}
use Rattle.kt_text.specs.Functions.{with_stem}
use Rattle.kt_rules.specs.declared.line.entry.Kind.{Kind}
use Rattle.kt_rules.specs.declared.line.entry.Kind.TheVariants.{SingleColon, DoubleColon, Group, Pattern, TerminalPattern}
use Rattle.kt_rules.specs.declared.line.entry.Needs.{Needs}
use Rattle.kt_rules.specs.declared.line.entry.StemmedNeeds.{StemmedNeeds}
use Rattle.kt_rules.specs.declared.line.entry.Target.{Target}
use Rattle.kt_rules.specs.declared.line.entry.RecipeLine.{RecipeLine}
use Rattle.kt_rules.specs.declared.line.head.Separator.{Separator}
use Rattle.kt_rules.specs.declared.line.head.Separator.TheVariants.{Single, Double, Grouped}
use Rattle.kt_rules.specs.declared.line.head_names.HeadNames.{HeadNames}
use Rattle.kt_rules.specs.declared.place.Place.{Place}
use Rattle.kt_rules.specs.Refusals.{Refusal, RuleLineFault, rule_line_faults}
use Rattle.kt_rules.specs.Names.{without_dots}
use Rattle.kt_rules.specs.RuleLine.{Head, head_of, line_of, line_refusal}

-- a rule's kind, its targets, the prerequisites that all targets share (none in a static pattern rule), its recipe, and
-- the place of its rule line
pub record Entry : Type 0 where
  pub kind : Kind
  pub targets : List Target
  pub needs : Needs
  pub recipe : Option (List RecipeLine)
  pub place : Place

-- the prerequisites from a static pattern, or else the shared ones
abbrev pub needs_or : Needs → Option StemmedNeeds → Needs
needs_or needs None = needs
needs_or needs (Some stemmed) = stemmed.needs

-- the prerequisites of a target of a rule
abbrev pub needs_for : Entry → Target → Needs
needs_for rule target = needs_or rule.needs target.stemmed

-- a recipe with one more line
abbrev pub line_added : Option (List RecipeLine) → RecipeLine → List RecipeLine
line_added None line = line ∷ []
line_added (Some lines) line = lines ++ line ∷ []

-- the rule with one more line of recipe
abbrev pub with_line : Entry → RecipeLine → Entry
with_line rule line = record rule { recipe = Some (line_added rule.recipe line) }

-- the kind of a rule, from the separator and whether a target has a percent sign
abbrev pub kind_of : Separator → Bool → Kind
kind_of Single false = SingleColon
kind_of Single true = Pattern
kind_of Double false = DoubleColon
kind_of Double true = TerminalPattern
kind_of Grouped has_percent = Group

-- no prerequisites
abbrev pub no_needs : Needs
no_needs = record { prerequisites = []; order_only = [] }

-- names with the stem in place of the first percent sign of each, and then without leading `./` (GNU make manual,
-- "Static Pattern Rules")
unfoldable pub stemmed_names : Text → List Text → List Text
stemmed_names stem names = map (λ name. without_dots (with_stem name stem)) names

-- a stem with the prerequisites that it gives in a static pattern rule
abbrev pub stemmed : Needs → Text → StemmedNeeds
stemmed needs stem = record {
  stem = stem;
  needs = record {
    prerequisites = stemmed_names stem needs.prerequisites;
    order_only = stemmed_names stem needs.order_only;
  };
}

-- the stem and prerequisites of a target, if there is a static pattern that matches it
unfoldable pub stemmed_of : Option Text → Needs → Text → Option StemmedNeeds
stemmed_of pattern needs target =
    option_and_then (λ text. option_map
    (λ place. stemmed needs (slice_range target place.0 place.1)) (stem_span text target)) pattern

-- a target of a line
abbrev pub target_of : Option Text → Needs → Text → Target
target_of pattern needs name = record { name = name; stemmed = stemmed_of pattern needs name }

-- the prerequisites that all targets of a line share: none in a static pattern rule
abbrev pub shared_needs : Option Text → Needs → Needs
shared_needs None needs = needs
shared_needs (Some pattern) needs = no_needs

-- the recipe on the rule line itself: the text after its semicolon
abbrev pub recipe_on_line : Option Text → Place → Option (List RecipeLine)
recipe_on_line recipe place = option_map (λ text. record { text = text; place = place } ∷ []) recipe

-- the rule with these names: in a static pattern rule, each target has its prerequisites with the stem put in
abbrev pub rule_by : Kind → List Text → Option Text → Needs → Option (List RecipeLine) → Place → Entry
rule_by kind targets pattern needs recipe place = record {
  kind = kind;
  targets = map (target_of pattern needs) targets;
  needs = shared_needs pattern needs;
  recipe = recipe;
  place = place;
}

-- the rule of a line
abbrev pub rule_with : HeadNames → Option Text → Place → Entry
rule_with line recipe place =
    rule_by (kind_of line.separator (list_any has_percent line.targets)) line.targets line.pattern line.needs
    (recipe_on_line recipe place) place

-- a line without names
abbrev pub empty_line : HeadNames
empty_line = record { separator = Single; targets = []; pattern = None; needs = no_needs }

-- a line without targets is one without names (POSIX.1-2024 make, "Target Rules", has no such line; this is kati's own)
abbrev pub kept_line : HeadNames → HeadNames
kept_line line = if length line.targets == 0 then empty_line else line

-- the line, unless it is refused
abbrev pub line_unless : Option Refusal → HeadNames → Result HeadNames Refusal
line_unless None line = Ok (kept_line line)
line_unless (Some refusal) line = Err refusal

-- the line, once its names are tested
abbrev pub tested_line : HeadNames → Result HeadNames Refusal
tested_line line = line_unless (line_refusal line) line

-- the line of a head, unless the head is refused
abbrev pub line_after : Result Head Refusal → Result HeadNames Refusal
line_after (Ok head) = tested_line (line_of head)
line_after (Err refusal) = Err refusal

-- whether there is no word
abbrev pub is_nil : List Text → Bool
is_nil [] = true
is_nil (word ∷ words) = false

-- the line of an expanded head, or why it is refused; a head without words is a line without names
unfoldable pub head_names : Text → Result HeadNames Refusal
head_names text = if is_nil (words_of text) then Ok empty_line else line_after (head_of text)

-- the rule of a line that was read
abbrev pub rules_with : Result HeadNames Refusal → Option Text → Place → Result Entry Refusal
rules_with (Ok line) recipe place = Ok (rule_with line recipe place)
rules_with (Err refusal) recipe place = Err refusal

-- the rule of an expanded head, with the recipe after its semicolon, if there is one, or its fault
unfoldable pub rule_of : Text → Option Text → Place → Result Entry RuleLineFault
rule_of text recipe place = rule_line_faults place (rules_with (head_names text) recipe place)
