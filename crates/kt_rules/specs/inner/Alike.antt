-- Rules that need the same, as the program tells them by their places (kati's own).
use Rattle.std.specs.Prelude.{◌≡◌, Bool, false, List, Option, Some, None, is_some, map}
use Rattle.kt_rules.specs.inner.Prelude.{Spot}
use Rattle.kt_rules.specs.Prelude.{Kind, Needs, Target, Entry}
use Rattle.kt_rules.specs.declared.book.row.Row.{Row}
use Rattle.kt_rules.specs.views.Book.{rule_needs}
use Rattle.kt_rules.specs.inner.Slots.{explicit_left, spot_rule}
use Rattle.kt_rules.specs.Suffixes.{is_bare}

-- two rows have rules of one kind with the same prerequisites, and no static pattern
pub record HaveSameNeeds (row other : Row) : Type 0 where
  pub kind : row.kind ≡ other.kind
  pub recipe : row.has_recipe ≡ other.has_recipe
  pub prerequisites : row.numbers.needs.prerequisites ≡ other.numbers.needs.prerequisites
  pub order_only : row.numbers.needs.order_only ≡ other.numbers.needs.order_only
  pub plain : row.numbers.pattern ≡ None
  pub plain_too : other.numbers.pattern ≡ None

-- a rule is explicit whatever name its target has, and the target needs what all of its targets need
pub record IsCommon (made : Entry × Target) : Type 0 where
  pub explicit : is_bare made ≡ false
  pub stemless : made.1.stemmed ≡ None

-- the kind of a rule, whether there is a recipe, and the prerequisites of all its targets
abbrev pub common_needs : Entry → Kind × (Bool × Needs)
common_needs rule = (rule.kind, (is_some rule.recipe, rule.needs))

-- there are two rules, and they say the same of all their targets
abbrev pub SaySame : Option Entry → Option Entry → Type 0
SaySame (Some rule) (Some other) = common_needs rule ≡ common_needs other
SaySame (Some rule) None = ⊥
SaySame None other = ⊥

-- there are two rules; they are explicit whatever names their targets have, and need the same
pub record AreAlike (rules : List Entry) (spot other : Spot) : Type 0 where
  pub first : Entry × Target
  pub second : Entry × Target
  pub first_is : spot_rule rules spot ≡ Some first
  pub second_is : spot_rule rules other ≡ Some second
  pub first_explicit : is_bare first ≡ false
  pub second_explicit : is_bare second ≡ false
  pub same : rule_needs first ≡ rule_needs second

-- the explicit rules at spots need the same as those at others, whichever rules are skipped there
abbrev pub NeedSame : List Entry → List Spot → List Spot → Type 0
NeedSame rules spots others = (skips more : Bool)
    → map rule_needs (explicit_left skips rules spots) ≡ map rule_needs (explicit_left more rules others)
