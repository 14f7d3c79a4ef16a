-- The code's own types as those of the definitions, without their places in memory.
use Rattle.std.specs.Prelude.{[], ◌++◌, Option, None, Some, codes}
use Rattle.kt_eval.specs.Prelude.{Text}
use Rattle.kt_eval.specs.inner.Prelude.{Assigning, keeps, defers, expands, escapes}
use Rattle.kt_eval.specs.declared.macros.assigning.Assigning.{Assigning as AssigningType}
use Rattle.kt_eval.specs.declared.macros.assigning.Assigning.TheVariants as does
use Rattle.kt_eval.specs.declared.reading.conditions.ComparedTexts.{ComparedTexts as ComparedType}
use Rattle.kt_eval.specs.declared.reading.page.RawLine.{RawLine as HeldRawLine}
use Rattle.kt_eval.specs.reading.Conditions.{ComparedTexts}
use Rattle.kt_eval.specs.reading.Reading.{RawLine}
use Rattle.kt_eval.specs.expanding.Calls.{Naming, plainly, substituting}
use Rattle.kt_eval.specs.declared.expanding.calls.Naming.{Naming as NamingType}
use Rattle.kt_eval.specs.declared.expanding.calls.Naming.TheVariants as naming

-- the text before that of an assignment: an old value and a space, if there is an old value
abbrev pub front_view : Option Text → Text
front_view None = []
front_view (Some old) = old ++ codes " "

-- what an assignment does
abbrev pub assigning_view : AssigningType → Assigning
assigning_view does.Keeps = keeps
assigning_view (does.Defers front) = defers (front_view front)
assigning_view (does.Expands front) = expands (front_view front)
assigning_view does.Escapes = escapes

-- a line of a page
abbrev pub raw_view : HeldRawLine → RawLine
raw_view line = record { number = line.number; tab = line.tab; text = line.text.now }

-- two texts that are compared
abbrev pub compared_view : ComparedType → ComparedTexts
compared_view compared = record { first = compared.first.now; second = compared.second.now }

-- what is named
abbrev pub naming_view : NamingType → Naming
naming_view (naming.Plainly name) = plainly name.now
naming_view (naming.Substituting name pattern replacement) = substituting name.now pattern.items replacement.items
