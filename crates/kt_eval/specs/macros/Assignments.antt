-- What an assignment and a define do (POSIX.1-2024 make, "Macros"; GNU make manual, "Setting Variables" and "Defining
-- Multi-Line Variables").
use Rattle.std.specs.Prelude.{Bool, ◌==◌, ◌||◌, List, [], ◌++◌, length, map, codes, if◌then◌else◌}
use Rattle.kt_eval.specs.Prelude.{list_any, join_with_byte, Text, is_separator, condensed_of, Form, assignment}
use Rattle.kt_eval.specs.Prelude.{plain_of, Deferred, Immediate, find, set_macro, Step, stop, change}
use Rattle.kt_syntax.specs.declared.form.Operator.{Operator}
use Rattle.kt_syntax.specs.declared.form.Operator.TheVariants as operator
use Rattle.kt_rules.specs.declared.fault_kind.FaultKind.TheVariants as kinds
use Rattle.kt_eval.specs.macros.Macros.{Assigning, keeps, defers, expands, escapes, assigning, set_by_makefile, with_dollars_doubled}
use Rattle.kt_eval.specs.Outcome.{◌>>=◌, done}
use Rattle.kt_eval.specs.reading.Conditions.{trimmed}
use Rattle.kt_eval.specs.expanding.Expansion.{Evaluator, expanded}

-- what an assignment does with a name and its text
unfoldable pub assign : Evaluator → Text → Text → Assigning → Step (Unit {0})
assign e name text keeps = done tt
assign e name text (defers front) = change (set_macro name (set_by_makefile Deferred (front ++ text)))
assign e name text (expands front) = do
  x ← expanded e text
  change (set_macro name (set_by_makefile Immediate (front ++ x)))
assign e name text escapes = do
  x ← expanded e text
  change (set_macro name (set_by_makefile Deferred (with_dollars_doubled x)))

-- a form that is refused, by its word (kati's own)
abbrev pub refused_form : {A : Type 0} → Text → Step A
refused_form form = stop kinds.RefusedForm form

-- a name that no macro may have (kati's own)
abbrev pub is_bad_name : Text → Bool
is_bad_name name = length name == 0 || list_any is_separator name

-- an assignment to an expanded name; what it does is decided before its text is expanded
unfoldable pub assign_named : Evaluator → Operator → Text → Text → Step (Unit {0})
assign_named e operator text name =
    if is_bad_name name then stop kinds.BadMacroName []
    else (λ w. assign e name text (assigning operator (find name w.table)) w)

-- an assignment by its operator; `!=` is refused before its name is expanded
unfoldable pub assign_line : Evaluator → Text → Operator → Text → Step (Unit {0})
assign_line e name operator.Shell text = refused_form (codes "!=")
assign_line e name operator text = do
  x ← expanded e name
  assign_named e operator text x

-- the lines of a body as a value
unfoldable pub body_text : List Text → Text
body_text lines = join_with_byte 10 (map condensed_of lines)

-- a define, from the text after its word: a name with an operator, or a name alone, which is deferred
unfoldable pub define : Evaluator → Text → Form → Text → Step (Unit {0})
define e rest (assignment name operator text) body = assign_line e (plain_of name) operator body
define e rest other body = assign_line e (trimmed (plain_of rest)) operator.Deferred body
