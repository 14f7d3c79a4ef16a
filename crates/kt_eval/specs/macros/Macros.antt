-- The macros of a makefile, and what an assignment does to them (POSIX.1-2024 make, "Macros"; GNU make manual, "The Two
-- Flavors of Variables", "Setting Variables", "Appending More Text to Variables", "Overriding Variables").
use Rattle.std.specs.Prelude.{◌==◌, List, [], ◌∷◌, ◌++◌, Option, Some, None, codes, bytes_eq, if◌then◌else◌}
use Rattle.std.specs.List.{flat_map}
use Rattle.kt_text.specs.Words.{Text}
use Rattle.kt_syntax.specs.declared.form.Operator.{Operator}
use Rattle.kt_syntax.specs.declared.form.Operator.TheVariants as operator
use Rattle.kt_eval.specs.declared.macros.Flavour.{Flavour}
use Rattle.kt_eval.specs.declared.macros.Flavour.TheVariants.{Deferred, Immediate}
use Rattle.kt_eval.specs.declared.macros.Origin.{Origin}
use Rattle.kt_eval.specs.declared.macros.Origin.TheVariants.{Makefile, CommandLine}
use Rattle.kt_eval.specs.declared.macros.Macro.{Macro}

-- names with their macros, in the order in which they were first set; each name is there once
abbrev pub Macros : Type 0
Macros = List (Text × Macro)

-- the macro with a name
unfoldable pub find : Text → Macros → Option Macro
find name [] = None
find name (entry ∷ table) = if bytes_eq name entry.0 then Some entry.1 else find name table

-- the macros with this one set: a name that is there keeps its place, and a new one is added at the end
unfoldable pub put : Text → Macro → Macros → Macros
put name value [] = (name, value) ∷ []
put name value (entry ∷ table) = if bytes_eq name entry.0 then (entry.0, value) ∷ table
    else entry ∷ put name value table

-- a macro that a makefile sets
abbrev pub set_by_makefile : Flavour → Text → Macro
set_by_makefile flavour value = record { flavour = flavour; origin = Makefile; value = value }

-- what an assignment does with its text
pub data Assigning : Type 0 where
  -- nothing: the macro stays as it is
  keeps : Assigning
  -- the text as written becomes the deferred value, after the given text
  defers : (front : Text) → Assigning
  -- the text is expanded, and becomes the immediate value, after the given text
  expands : (front : Text) → Assigning
  -- the text is expanded, each dollar is doubled, and the result becomes the deferred value
  escapes : Assigning

-- the text is appended to the old value after a space, and is expanded at once if the old value was
abbrev pub appending : Flavour → Text → Assigning
appending Deferred old = defers (old ++ codes " ")
appending Immediate old = expands (old ++ codes " ")

-- one case for each operator, for a macro that isn't defined
abbrev pub assigning_new : Operator → Assigning
assigning_new operator.Deferred = defers []
assigning_new operator.Immediate = expands []
assigning_new operator.Escaped = escapes
assigning_new operator.Conditional = defers []
assigning_new operator.Append = defers []
assigning_new operator.Shell = keeps

-- one case for each operator, for a macro that a makefile defined
abbrev pub reassigning : Operator → Macro → Assigning
reassigning operator.Deferred old = defers []
reassigning operator.Immediate old = expands []
reassigning operator.Escaped old = escapes
reassigning operator.Conditional old = keeps
reassigning operator.Append old = appending old.flavour old.value
reassigning operator.Shell old = keeps

-- a macro of the command line isn't changed (kati's own: the text isn't expanded)
abbrev pub assigning_over : Operator → Macro → Origin → Assigning
assigning_over operator old CommandLine = keeps
assigning_over operator old Makefile = reassigning operator old

-- what an assignment does, from its operator and the old macro
unfoldable pub assigning : Operator → Option Macro → Assigning
assigning operator None = assigning_new operator
assigning operator (Some old) = assigning_over operator old old.origin

-- a text with each dollar doubled, which expands to the text
unfoldable pub with_dollars_doubled : Text → Text
with_dollars_doubled text = flat_map (λ byte. if byte == 36 then 36 ∷ 36 ∷ [] else byte ∷ []) text
