-- Worked values of expansion, as facts that compute. The texts are of the GNU make manual's sections on variables and
-- functions, and of kati's own rules where it has some.
use Rattle.std.specs.Prelude.{◌≡◌, ℕ, List, [], ◌∷◌, Option, Some, None, codes}
use Rattle.kt_eval.specs.Prelude.{Text, Macros, Store}
use Rattle.kt_eval.specs.macros.Macros.{assigning, keeps, defers, expands, set_by_makefile}
use Rattle.kt_eval.specs.Outcome.{StepEnd, Gave, Stopped}
use Rattle.kt_eval.specs.Step.{fault_at}
use Rattle.kt_rules.specs.declared.place.Place.{Place}
use Rattle.kt_eval.specs.declared.fault.Fault.{Fault}
use Rattle.kt_eval.specs.declared.macros.Flavour.TheVariants.{Deferred, Immediate}
use Rattle.kt_eval.specs.declared.macros.Macro.{Macro}
use Rattle.kt_syntax.specs.declared.form.Operator.TheVariants as operator
use Rattle.kt_eval.specs.declared.macros.Origin.TheVariants.{CommandLine}
use Rattle.kt_eval.specs.reading.Conditions.{compared_of}
use Rattle.kt_eval.specs.expanding.Pure.{expanded_pure}
use Rattle.kt_eval.specs.reading.Machine.{Trace, traced, Makefile, read_of, reading}

-- a text expanded as in a recipe, with a given number of levels
abbrev pub comes_to : Macros → ℕ → Text → StepEnd (List Text) Text
comes_to table limit text = expanded_pure table [] None limit text []

-- a text expanded as in a recipe where the automatic macro `@` has the value `t`
abbrev pub comes_to_at : Macros → ℕ → Text → StepEnd (List Text) Text
comes_to_at table limit text = expanded_pure table ((codes "@", codes "t") ∷ []) None limit text []

abbrev pub deferred : Text → Text → Text × Macro
deferred name value = (name, set_by_makefile Deferred value)

abbrev pub immediate : Text → Text → Text × Macro
immediate name value = (name, set_by_makefile Immediate value)

-- references
pub record RowsOfReferences : Type 0 where
  pub undefined : comes_to [] 9 (codes "[$(A)]$$") ≡ Gave [] (codes "[]$")
  pub nested : comes_to (deferred (codes "A") (codes "B") ∷ deferred (codes "B") (codes "x") ∷ []) 9 (codes "$($(A))$A")
      ≡ Gave [] (codes "xB")
  pub substituted : comes_to (deferred (codes "S") (codes "a.c b") ∷ []) 9 (codes "$(S:.c=.o)")
      ≡ Gave [] (codes "a.o b")
  pub immediate_kept : comes_to (immediate (codes "A") (codes "$(B)") ∷ []) 1 (codes "$(A)")
      ≡ Gave [] (codes "$(B)")
  pub unterminated : comes_to [] 9 (codes "x$(a") ≡ Stopped [] (fault_at None 7 (codes "unterminated reference"))
  pub recursive : comes_to (deferred (codes "A") (codes "$(A)") ∷ []) 5 (codes "$(A)")
      ≡ Stopped [] (fault_at None 8 (codes "nesting too deep"))
  pub empty_level : comes_to (deferred (codes "A") [] ∷ []) 0 (codes "$(A)")
      ≡ Stopped [] (fault_at None 8 (codes "nesting too deep"))
  pub automatic_first : comes_to_at (deferred (codes "@") (codes "table") ∷ []) 9 (codes "$@ $(value @)")
      ≡ Gave [] (codes "t t")
  pub binding_first : comes_to_at [] 9 (codes "$(foreach @,a b,$@)$@") ≡ Gave [] (codes "a bt")
  pub dollar_level : comes_to [] 0 (codes "[$(A$$)]") ≡ Stopped [] (fault_at None 8 (codes "nesting too deep"))

-- functions
pub record RowsOfCalls : Type 0 where
  pub joined : comes_to [] 9 (codes "$(join a b,1 2 3)") ≡ Gave [] (codes "a1 b2 3")
  pub blank_condition : comes_to (deferred (codes "s") (codes " ") ∷ []) 9 (codes "[$(if $(s),y,n)]")
      ≡ Gave [] (codes "[y]")
  pub argument : comes_to (deferred (codes "f") (codes "[$(1):$(2)]") ∷ deferred (codes "g") (codes "$(call f,x)$(2)")
      ∷ []) 9 (codes "$(call g,a,b)")
      ≡ Gave [] (codes "[x:]b")
  pub stopped : comes_to [] 9 (codes "$(info a)$(error no)")
      ≡ Stopped (codes "a" ∷ []) (fault_at None 19 (codes "no"))
  pub refused : comes_to [] 9 (codes "$(shell ls)") ≡ Stopped [] (fault_at None 16 (codes "refused function shell"))
  pub bad : comes_to [] 9 (codes "$(word 0,a)") ≡ Stopped [] (fault_at None 18 (codes "bad argument of word"))
  pub few : comes_to [] 0 (codes "$(subst a)") ≡ Stopped [] (fault_at None 18 (codes "bad argument of subst"))
  pub in_recipe : comes_to [] 0 (codes "$(eval A = 1)") ≡ Stopped [] (fault_at None 32 (codes "eval in a recipe"))
  pub not_called : comes_to [] 9 (codes "$( info x)") ≡ Gave [] []
  pub cut_by_bytes : comes_to [] 9 (codes "$(subst a$,b,a)") ≡ Gave [] (codes "b")
  pub other_marks : comes_to [] 9 (codes "[$(subst a,${b,c},a)]")
      ≡ Stopped [] (fault_at None 7 (codes "unterminated reference"))

-- assignments and conditions
pub record RowsOfAssignments : Type 0 where
  pub appended : assigning operator.Append (Some (set_by_makefile Deferred (codes "x"))) ≡ defers (codes "x ")
  pub appended_at_once : assigning operator.Append (Some (set_by_makefile Immediate (codes "x"))) ≡ expands (codes "x ")
  pub appended_new : assigning operator.Append None ≡ defers []
  pub kept : assigning operator.Conditional (Some (set_by_makefile Immediate [])) ≡ keeps
  pub command_line : assigning operator.Deferred
      (Some (record { flavour = Deferred; origin = CommandLine; value = codes "1" }))
      ≡ keeps
  pub parentheses : compared_of (codes "( a , (b,c) ) x") ≡ Some (record { first = codes "a"; second = codes "(b,c)" })
  pub quotes : compared_of (codes "\" a\"'a'") ≡ Some (record { first = codes " a"; second = codes "a" })
  pub unclosed : compared_of (codes "($(a,b)") ≡ None

-- what is seen of a reading: its messages, the names asked for, and the fault, if there is one
abbrev pub heard_of : StepEnd Trace Makefile → List Text × (List Text × Option Fault)
heard_of (Gave trace read) = (trace.said, (trace.asked, None))
heard_of (Stopped trace fault) = (trace.said, (trace.asked, Some fault))

-- the file `m` is read beside others, with a given number of levels
abbrev pub heard : Store → ℕ → List Text × (List Text × Option Fault)
heard files limit = heard_of (reading files (codes "m" ∷ []) limit (read_of [] []) (traced [] []))

abbrev pub makefile : Text → Store
makefile text = (codes "m", text) ∷ []

abbrev pub at_m : ℕ → Option Place
at_m number = Some (record { file = codes "m"; line = number })

-- makefiles
pub record RowsOfReading : Type 0 where
  pub no_makefile : heard [] 9 ≡ ([], ((codes "m" ∷ []), Some (fault_at None 3 (codes "no makefile"))))
  pub stray_end : heard (makefile (codes "endif")) 9
      ≡ ([], ((codes "m" ∷ []), Some (fault_at (at_m 1) 11 (codes "stray endif"))))
  pub appended : heard (makefile (codes "A = x\nA += y\nB := $(info $(A))")) 9
      ≡ ((codes "x y" ∷ []), ((codes "m" ∷ []), None))
  pub condition : heard (makefile (codes "ifeq (a,b)\nelse ifdef A\nelse\nB := $(info c)\nendif")) 9
      ≡ ((codes "c" ∷ []), ((codes "m" ∷ []), None))
  pub missing_end : heard (makefile (codes "B := $(info c)\n\nifdef A")) 9
      ≡ ((codes "c" ∷ []), ((codes "m" ∷ []), Some (fault_at (at_m 3) 12 (codes "missing endif"))))
  pub defined : heard (makefile (codes "define A\nx\nendef\nB := $(info $(A))")) 9
      ≡ ((codes "x" ∷ []), ((codes "m" ∷ []), None))
  pub deep : heard (makefile (codes "A =\nB := $(A)")) 0
      ≡ ([], ((codes "m" ∷ []), Some (fault_at (at_m 2) 8 (codes "nesting too deep"))))
  pub absent : heard (makefile (codes "include n")) 9
      ≡ ([], ((codes "m" ∷ codes "n" ∷ []), Some (fault_at (at_m 1) 4 (codes "no file n"))))
  pub includes_itself : heard (makefile (codes "include m")) 2
      ≡ ([], ((codes "m" ∷ codes "m" ∷ codes "m" ∷ []), Some (fault_at (at_m 1) 8 (codes "nesting too deep"))))
  pub included_twice : heard ((codes "m", codes "include n n") ∷ (codes "n", codes "B := $(info $(A))\nA := x") ∷ []) 9
      ≡ ((codes "" ∷ codes "x" ∷ []), ((codes "m" ∷ codes "n" ∷ codes "n" ∷ []), None))
  pub bare_tab : heard (makefile (codes "\tx")) 9
      ≡ ([], ((codes "m" ∷ []), Some (fault_at (at_m 1) 6 (codes "recipe before a target"))))
  pub refused_form : heard (makefile (codes "A != x")) 9
      ≡ ([], ((codes "m" ∷ []), Some (fault_at (at_m 1) 17 (codes "refused form !="))))
  pub pattern : heard (makefile (codes "include *")) 9
      ≡ ([], ((codes "m" ∷ []), Some (fault_at (at_m 1) 20 (codes "refused name *"))))
  pub end_in_eval : heard (makefile (codes "\nB := $(eval endif)")) 2
      ≡ ([], ((codes "m" ∷ []), Some (fault_at (at_m 2) 11 (codes "stray endif"))))
