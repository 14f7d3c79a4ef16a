-- Rules as the program holds them, storing each name once (kati's own).
use Rattle.std.specs.Prelude.{◌≡◌, ℕ, ◌≤◌, List, [], ◌∷◌, get_or, length}
use Rattle.std.specs.Prelude.{Bool, true, Option, Some, None, if◌then◌else◌, option_map}
use Rattle.kt_rules.specs.inner.Prelude.{All, Spot}
use Rattle.kt_rules.specs.Prelude.{Text, Kind, DoubleColon, Group, Needs}
use Rattle.kt_rules.specs.views.Prelude.{BookRule, rule_by, target_of}
use Rattle.kt_rules.specs.Prelude.{Target, Entry}
use Rattle.kt_rules.specs.declared.book.kinds.Kinds.{Kinds}
use Rattle.kt_rules.specs.declared.book.row.NeedsNumbers.{NeedsNumbers}
use Rattle.kt_rules.specs.declared.book.row.Row.{Row}
use Rattle.kt_rules.specs.declared.book.row.RuleNumbers.{RuleNumbers}
use Rattle.kt_rules.specs.declared.book.rules.LastNeeds.{LastNeeds}
use Rattle.kt_rules.specs.declared.line.entry.RecipeLine.{RecipeLine}
use Rattle.kt_rules.specs.inner.Slots.{IsKept}
use Rattle.kt_list.specs.views.Names.{name_at, names_at}
use Rattle.kt_rules.specs.views.Targets.{line_needs, text_in}
use Rattle.kt_rules.specs.inner.Dictionary.{IsListOf, IsNumberOf}

-- the prerequisites with these numbers
abbrev pub needs_held : List Text × List (List ℕ) → NeedsNumbers → Needs
needs_held dictionary numbers = record {
  prerequisites = names_at dictionary.0 (get_or dictionary.1 numbers.prerequisites []);
  order_only = names_at dictionary.0 (get_or dictionary.1 numbers.order_only []);
}

-- a rule by its numbers and the lines of its recipe
abbrev pub rule_held : List Text × List (List ℕ) → List RecipeLine → Row → Entry
rule_held dictionary lines row =
    rule_by row.kind (names_at dictionary.0 (get_or dictionary.1 row.numbers.targets []))
    (option_map (name_at dictionary.0) row.numbers.pattern) (needs_held dictionary row.numbers.needs)
    (if row.has_recipe then Some lines else None) row.place

-- the rules of rows: each has its lines
abbrev pub rules_held : List Text × List (List ℕ) → List (List RecipeLine) → List Row → List Entry
rules_held dictionary [] rows = []
rules_held dictionary (lines ∷ recipes) [] = []
rules_held dictionary (lines ∷ recipes) (row ∷ rows) =
    rule_held dictionary lines row ∷ rules_held dictionary recipes rows

-- whether there may be rules of a kind
abbrev pub sees : Kinds → Kind → Bool
sees kinds DoubleColon = kinds.double
sees kinds Group = kinds.group
sees kinds other = true

-- the numbers of the lists of these prerequisites
abbrev pub AreNeeds : List Text × List (List ℕ) → Needs → NeedsNumbers → Type 0
AreNeeds dictionary needs numbers =
    IsListOf dictionary numbers.prerequisites needs.prerequisites
    × IsListOf dictionary numbers.order_only needs.order_only

-- the numbers of a rule's targets, of its static pattern, and of its prerequisites
pub record AreRuleNumbers (dictionary : List Text × List (List ℕ)) (targets : List Text) (pattern : Option Text)
    (needs : Needs) (numbers : RuleNumbers) : Type 0 where
  pub of_targets : IsListOf dictionary numbers.targets targets
  pub of_pattern : IsNumberOf dictionary.0 numbers.pattern pattern
  pub of_needs : AreNeeds dictionary needs numbers.needs

-- there may be the rule of a row, and its numbers are those of names
pub record IsKnownRow (kinds : Kinds) (dictionary : List Text × List (List ℕ)) (row : Row) : Type 0 where
  pub seen : sees kinds row.kind ≡ true
  pub targets : List Text
  pub pattern : Option Text
  pub needs : Needs
  pub told : AreRuleNumbers dictionary targets pattern needs row.numbers

-- the numbers of the prerequisites that are remembered, if there are any
abbrev pub IsLast : List Text × List (List ℕ) → Option LastNeeds → Type 0
IsLast dictionary None = Unit {0}
IsLast dictionary (Some last) = AreNeeds dictionary last.needs.value.1 last.numbers

-- each row has its lines, and its rule is known
pub record AreHeld (dictionary : List Text × List (List ℕ)) (recipes : List (List RecipeLine)) (rows : List Row)
    (kinds : Kinds) (last : Option LastNeeds) : Type 0 where
  pub many : length recipes ≡ length rows
  pub known : All (IsKnownRow kinds dictionary) rows
  pub remembered : IsLast dictionary last

-- the target of a rule whose name has this number
abbrev pub numbered_target : BookRule → ℕ → Target
numbered_target rule number =
    target_of (text_in rule.pattern) (line_needs rule) (name_at rule.names.now number)

-- what a book keeps follows from its rules, and no list is at a number without a name
pub record HoldsAll (rules : List Text × List Entry) (targets recipes : List (List Spot))
    (phony suffixes : List Text) : Type 0 where
  pub kept : IsKept rules.1 (rules.0, targets) (rules.0, recipes) phony suffixes
  pub targets_within : length targets ≤ length rules.0
  pub recipes_within : length recipes ≤ length rules.0
