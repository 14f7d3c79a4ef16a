-- Worked books, as facts that compute. The rules are those of the GNU make manual's sections on rules, and of kati's
-- own rules where it has some.
use Rattle.std.specs.Prelude.{◌≡◌, ℕ, Bool, true, false, List, [], ◌∷◌, ◌++◌, Some, None, codes}
use Rattle.kt_rules.specs.Prelude.{Text, Entry}
use Rattle.kt_rules.specs.declared.line.entry.Kind.{Kind}
use Rattle.kt_rules.specs.declared.line.entry.Kind.TheVariants.{SingleColon, DoubleColon, Group, Pattern}
use Rattle.kt_rules.specs.declared.line.entry.Target.{Target}
use Rattle.kt_rules.specs.declared.place.Place.{Place}
use Rattle.kt_rules.specs.Places.{place_text}
use Rattle.kt_rules.specs.Refusals.{bad_group, both_colons, two_recipes}
use Rattle.kt_rules.specs.Book.{explicit_rules, is_phony, first_goal_of, refusal_of, override_messages, patterns_of}

abbrev pub makefile_line : ℕ → Place
makefile_line line = record { file = codes "M"; line = line }

abbrev pub named : Text → Target
named name = record { name = name; stemmed = None }

-- a rule on a line: one target, its prerequisites and order-only ones, and an empty recipe or none
abbrev pub rule : Kind → Text → List Text → List Text → Bool → ℕ → Entry
rule kind name prerequisites order_only true line = record {
  kind = kind;
  targets = named name ∷ [];
  needs = record { prerequisites = prerequisites; order_only = order_only };
  recipe = Some (record { text = []; place = makefile_line line } ∷ []);
  place = makefile_line line;
}
rule kind name prerequisites order_only false line = record {
  kind = kind;
  targets = named name ∷ [];
  needs = record { prerequisites = prerequisites; order_only = order_only };
  recipe = None;
  place = makefile_line line;
}

-- `NAME: ;` and `NAME: PREREQUISITE` on a line
abbrev pub made : Text → ℕ → Entry
made name line = rule SingleColon name [] [] true line

abbrev pub needing : Text → Text → ℕ → Entry
needing name prerequisite line = rule SingleColon name (prerequisite ∷ []) [] false line

-- `TARGET: PREREQUISITE ;`, both patterns
abbrev pub pattern : Text → Text → ℕ → Entry
pattern target prerequisite line = rule Pattern target (prerequisite ∷ []) [] true line

-- suffix rules
pub record RowsOfSuffixRules : Type 0 where
  pub two_suffixes : patterns_of (made (codes ".c.o") 1 ∷ []) ≡ pattern (codes "%.o") (codes "%.c") 1 ∷ []
  pub one_suffix : patterns_of (made (codes ".c") 1 ∷ []) ≡ pattern (codes "%") (codes "%.c") 1 ∷ []
  pub later_suffix : patterns_of (made (codes ".x.o") 1 ∷ needing (codes ".SUFFIXES") (codes ".x") 2 ∷ [])
      ≡ pattern (codes "%.o") (codes "%.x") 1 ∷ []
  pub cleared : patterns_of (made (codes ".c.o") 1 ∷ rule SingleColon (codes ".SUFFIXES") [] [] false 2 ∷ []) ≡ []
  pub not_explicit : explicit_rules (made (codes ".c.o") 1 ∷ []) (codes ".c.o") ≡ []
  pub repeated : patterns_of (made (codes ".c.o") 1 ∷ rule Pattern (codes "%.o") (codes "%.c" ∷ []) [] false 2 ∷ [])
      ≡ []

-- pattern rules
pub record RowsOfPatternRules : Type 0 where
  pub last_of_three : patterns_of (pattern (codes "%.o") (codes "%.c") 1 ∷ pattern (codes "%.o") (codes "%.c") 2 ∷
      pattern (codes "%.o") (codes "%.c") 3 ∷ [])
      ≡ pattern (codes "%.o") (codes "%.c") 3 ∷ []
  pub in_both_lists : patterns_of (rule Pattern (codes "%") (codes "a" ∷ []) (codes "a" ∷ []) true 1 ∷ pattern (codes
      "%") (codes "a") 2 ∷ [])
      ≡ rule Pattern (codes "%") (codes "a" ∷ []) (codes "a" ∷ []) true 1 ∷ pattern (codes "%") (codes "a") 2 ∷ []

-- why a rule is refused after others, and its warnings
pub record RowsOfAdding : Type 0 where
  pub no_recipe : refusal_of [] (rule Group (codes "a") [] [] false 1) ≡ Some bad_group
  pub two_kinds : refusal_of (needing (codes "a") (codes "b") 1 ∷ []) (rule DoubleColon (codes "a") [] [] false 2)
      ≡ Some (both_colons (codes "a"))
  pub beside_group : refusal_of (rule Group (codes "a") [] [] true 1 ∷ []) (made (codes "a") 2)
      ≡ Some (two_recipes (codes "a"))
  pub second_recipe : override_messages (made (codes "a") 1 ∷ []) (made (codes "a") 2)
      ≡ (place_text (makefile_line 2) ++ codes ": warning: overriding recipe for target 'a'") ∷ []

-- other lookups
pub record RowsOfAnswers : Type 0 where
  pub order_only_phony : is_phony (rule SingleColon (codes ".PHONY") [] (codes "b" ∷ []) false 1 ∷ []) (codes "b")
      ≡ true
  pub no_target : is_phony (needing (codes "a") (codes "b") 1 ∷ []) (codes "b") ≡ false
  pub first_goal : first_goal_of (made (codes ".c.o") 1 ∷ pattern (codes "%") (codes "a") 2 ∷ needing (codes "b")
      (codes "c") 3 ∷ []) ≡ Some (codes "b")
