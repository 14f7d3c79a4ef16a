-- What a book promises beside its entries: numbers of rules, names that are made alike, and groups that stand alone
-- (kati's own).
use Rattle.std.specs.Prelude.{◌≡◌, ℕ, Bool, true, false, ◌&&◌, ◌||◌, List, map, filter, flat_map, bytes_eq, is_some}
use Rattle.kt_rules.specs.views.Prelude.{AllPairs, enumerate_from}
use Rattle.kt_rules.specs.Prelude.{list_any, Text, Kind, Target, Needs, Entry, needs_for}
use Rattle.kt_rules.specs.Suffixes.{suffixes_of}
use Rattle.kt_rules.specs.Book.{is_group, made_targets, explicit_rules, is_explicit}

-- what a rule says of a target, whatever its name: the kind, whether there is a recipe, and the prerequisites
abbrev pub rule_needs : Entry × Target → Kind × (Bool × Needs)
rule_needs made = (made.0.kind, (is_some made.0.recipe, needs_for made.0 made.1))

-- the explicit rules of two names say the same of them, one by one
abbrev pub AreMadeAlike : List Entry → Text → Text → Type 0
AreMadeAlike rules name other =
    map rule_needs (explicit_rules rules name) ≡ map rule_needs (explicit_rules rules other)

-- the number of a numbered rule, once for each of its targets with the name for which it is explicit
abbrev pub numbers_in : List Text → Text → ℕ × Entry → List ℕ
numbers_in suffixes name numbered = map (λ target. numbered.0)
    (filter (λ target. bytes_eq name target.name && is_explicit suffixes (numbered.1, target)) numbered.1.targets)

-- the numbers of the explicit rules of a target, in order: a rule's number is its place in the list, from 0
unfoldable pub explicit_numbers : List Entry → Text → List ℕ
explicit_numbers rules name = flat_map (numbers_in (suffixes_of rules) name) (enumerate_from 0 rules)

-- ---- groups

-- whether a rule makes a target of this name
abbrev pub makes : Entry → Text → Bool
makes rule name = list_any (λ target. bytes_eq name target.name) (made_targets rule)

-- of two rules with a recipe, one of them a group, neither makes a target of the other
abbrev pub AreApart : Entry → Entry → Type 0
AreApart earlier later =
    is_some earlier.recipe ≡ true → is_some later.recipe ≡ true → (is_group later.kind || is_group earlier.kind) ≡ true
    → list_any (λ target. makes earlier target.name) (made_targets later) ≡ false

-- a group shares no target with another rule that has a recipe (kati's own)
abbrev pub GroupsStandAlone : List Entry → Type 0
GroupsStandAlone rules = AllPairs AreApart rules
