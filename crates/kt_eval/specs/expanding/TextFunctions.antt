-- The arguments of text functions (GNU make manual, "Function Call Syntax").
use Rattle.kt_eval.specs.Prelude.{ℕ, List, [], Option, unwrap_or, slice_get, Text, applied, TextFunction}

-- the argument at a place, from 0, or an empty text
abbrev pub argument : List Text → ℕ → Text
argument arguments place = unwrap_or (slice_get arguments place) []

-- the result of a function for as many arguments as it has
unfoldable pub text_result : TextFunction → List Text → Option Text
text_result function arguments = applied function (argument arguments 0) (argument arguments 1) (argument arguments 2)
