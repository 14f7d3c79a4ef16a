-- How rules are opened, continued and closed (POSIX.1-2024 make, "Target Rules"; GNU make manual, "Rule Syntax" and
-- "Recipe Syntax"). When a rule is closed is kati's own.
use Rattle.std.specs.Prelude.{List, [], ◌∷◌, ◌++◌, drop, Option, Some, None, option_map, Result, Ok, Err}
use Rattle.kt_eval.specs.Prelude.{Text, plain_of, Place, Entry, rule_of, with_line, set_rule}
use Rattle.kt_syntax.specs.Heads.{RuleParts, line_parts}
use Rattle.kt_syntax.specs.Recipes.{recipe_of}
use Rattle.kt_rules.specs.declared.fault_kind.FaultKind.TheVariants as kinds
use Rattle.kt_rules.specs.Refusals.{RuleLineFault}
use Rattle.kt_rules.specs.Book.{added, refusal_of}
use Rattle.kt_eval.specs.Outcome.{Gave, Stopped, ◌>>=◌, ◌>>◌, done}
use Rattle.kt_eval.specs.Step.{Step, stop, change, fault_at}
use Rattle.kt_eval.specs.expanding.Expansion.{Evaluator, expanded}

-- the place of a rule; lines are always read at one
abbrev pub rule_place : Option Place → Place
rule_place None = record { file = []; line = 0 }
rule_place (Some place) = place

-- the fault of a rule as a fault of the makefile
abbrev pub stop_rule : {A : Type 0} → RuleLineFault → Step A
stop_rule fault w = Stopped w (fault_at (Some fault.place) fault.number fault.words)

-- a rule is added to the book, with its warnings, or is refused because of the rules before it
abbrev pub entered : Entry → Result (List Text) RuleLineFault → Step (Unit {0})
entered rule (Ok messages) w = Gave (record w { book = w.book ++ rule ∷ []; said = w.said ++ messages }) tt
entered rule (Err fault) w = stop_rule fault w

-- a rule is tested against the rules before it, and then added to the book or refused
unfoldable pub enter_rule : Entry → Step (Unit {0})
enter_rule rule w = entered rule (added w.book rule (refusal_of w.book rule)) w

-- the open rule, if there is one, is closed
abbrev pub close : Option Entry → Step (Unit {0})
close None = done tt
close (Some rule) = do
  change (set_rule None)
  enter_rule rule

-- the open rule of the world, if there is one, is closed
unfoldable pub close_rule : Step (Unit {0})
close_rule w = close w.rule w

-- a rule is open from then on
abbrev pub opened : Result Entry RuleLineFault → Step (Unit {0})
opened (Ok rule) = change (set_rule (Some rule))
opened (Err fault) = stop_rule fault

-- the rule of an expanded head, with the recipe on its line
unfoldable pub open_rule : Option Text → Text → Step (Unit {0})
open_rule recipe head w = opened (rule_of head recipe (rule_place w.place)) w

-- a rule line, from its parts
unfoldable pub rule_of_parts : Evaluator → Option RuleParts → Step (Unit {0})
rule_of_parts e None = stop kinds.TargetSpecificMacro []
rule_of_parts e (Some parts) = do
  head ← expanded e (plain_of parts.head)
  open_rule (option_map recipe_of parts.recipe) head

-- a rule line as written: its expanded head opens a rule
unfoldable pub rule_line : Evaluator → Text → Step (Unit {0})
rule_line e line = rule_of_parts e (line_parts line)

-- one more line of the open rule's recipe, without the tab before it
unfoldable pub recipe_line : Entry → Text → Step (Unit {0})
recipe_line rule text w =
    Gave (set_rule (Some (with_line rule (record { text = recipe_of (drop 1 text); place = rule_place w.place }))) w) tt
