-- The names of an include (GNU make manual, "Including Other Makefiles").
use Rattle.std.specs.Prelude.{Bool, false, ◌==◌, ◌||◌, List, [], ◌∷◌, if◌then◌else◌}
use Rattle.kt_eval.specs.Prelude.{list_any, Text, words_of, Step, stop}
use Rattle.std.specs.Str.{is_utf8}
use Rattle.kt_rules.specs.declared.fault_kind.FaultKind.TheVariants as kinds
use Rattle.kt_eval.specs.Outcome.{◌>>=◌, ◌>>◌, done}
use Rattle.kt_eval.specs.expanding.Expansion.{Evaluator, expanded}

-- a name that is a shell pattern, which is refused (kati's own)
unfoldable pub is_shell_pattern : Text → Bool
is_shell_pattern [] = false
is_shell_pattern (first ∷ name) =
    first == 126 || list_any (λ byte. byte == 42 || (byte == 63 || byte == 91)) (first ∷ name)

-- one file of an include: a name that isn't UTF-8 or is a shell pattern is refused, each other is included
unfoldable pub include_named : Evaluator → Bool → Text → Step (Unit {0})
include_named e optional name =
    if is_utf8 name then (if is_shell_pattern name then stop kinds.RefusedName name else e.include optional name)
    else stop kinds.IncludeNameNotUtf8 []

-- the files of an include, one after another
unfoldable pub each_include : Evaluator → Bool → List Text → Step (Unit {0})
each_include e optional [] = done tt
each_include e optional (name ∷ names) = do
  include_named e optional name
  each_include e optional names

-- the list is expanded, and its words are the names
unfoldable pub include_line : Evaluator → Bool → Text → Step (Unit {0})
include_line e optional text = do
  x ← expanded e text
  each_include e optional (words_of x)
