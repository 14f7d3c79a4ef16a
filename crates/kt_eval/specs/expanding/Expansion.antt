-- What a text expands to, level by level (POSIX.1-2024 make, "Macros"; GNU make manual, "Basics of Variable References"
-- and "Functions for Transforming Text"). How levels are counted is kati's own.
use Rattle.std.specs.Prelude.{Bool, ◌==◌, ◌||◌, List, [], ◌∷◌, ◌++◌, length, Option, Some, None, codes, if◌then◌else◌}
use Rattle.kt_eval.specs.Prelude.{list_any, Text, words_of, stripped, Term, literal, dollar, reference, unclosed}
use Rattle.kt_eval.specs.Prelude.{terms_of, Flavour, Deferred, Immediate, TextFunction, Function, FoundValue, lookup}
use Rattle.kt_eval.specs.Prelude.{raw_value, bind, unbind, say, warn, Step, stop, change, arity, text_function_name}
use Rattle.kt_text.specs.Functions.{patsubst_of}
use Rattle.kt_rules.specs.declared.fault_kind.FaultKind.TheVariants as kinds
use Rattle.kt_eval.specs.declared.expanding.function.Function.TheVariants as function
use Rattle.kt_eval.specs.declared.state.Frame.TheVariants.{Loop, Call}
use Rattle.kt_eval.specs.Outcome.{Gave, ◌>>=◌, ◌>>◌, done}
use Rattle.kt_eval.specs.expanding.Calls.{Request, calls, refuses, refers, request_by_mark, Naming, plainly, substituting}
use Rattle.kt_eval.specs.expanding.Calls.{naming_of, is_function_name}
use Rattle.kt_eval.specs.expanding.TextFunctions.{text_result}

-- what may be done one level deeper: expand a text, read the text of an `eval`, read an included file, which may be
-- optional; and whether anything may be read at all
pub record Evaluator : Type 0 where
  pub reads : Bool
  pub expand : Text → Step Text
  pub eval : Text → Step (Unit {0})
  pub include : Bool → Text → Step (Unit {0})

-- the fault if no level is left
abbrev pub too_deep : {A : Type 0} → Step A
too_deep = stop kinds.NestingTooDeep []

-- the fault for a number of arguments, or for an argument, that this function doesn't accept
abbrev pub bad_argument : {A : Type 0} → Text → Step A
bad_argument name = stop kinds.BadArgument name

-- the fault for a function that kati refuses
abbrev pub refused_function : {A : Type 0} → Text → Step A
refused_function name = stop kinds.RefusedFunction name

-- a value, which is expanded if its flavour is deferred
abbrev pub flavoured : Evaluator → Flavour → Text → Step Text
flavoured e Deferred value = e.expand value
flavoured e Immediate value = done value

-- the expansion of what was found for a name
unfoldable pub value_of : Evaluator → Option FoundValue → Step Text
value_of e None = done []
value_of e (Some found) = flavoured e found.flavour found.value

-- the arguments expanded in turn, each added to those before
unfoldable pub each_argument : Evaluator → List Text → List Text → Step (List Text)
each_argument e out [] = done out
each_argument e out (text ∷ texts) = do
  x ← e.expand text
  each_argument e (out ++ x ∷ []) texts

-- a text, or else the fault of a bad argument of the function
abbrev pub accepted : Text → Option Text → Step Text
accepted name None = bad_argument name
accepted name (Some text) = done text

-- a text function is applied once its arguments are expanded; too few are refused before that
unfoldable pub apply_text : Evaluator → TextFunction → List Text → Step Text
apply_text e function texts =
    if length texts == arity function then (do
      arguments ← each_argument e [] texts
      accepted (text_function_name function) (text_result function arguments))
    else bad_argument (text_function_name function)

-- `if` [GNU make manual, "Functions for Conditionals"]
unfoldable pub apply_if : Evaluator → Text → Text → Option Text → Step Text
apply_if e condition chosen other = do
  x ← e.expand (stripped condition)
  if length x == 0 then otherwise e other else e.expand chosen
  where
    otherwise : Evaluator → Option Text → Step Text
    otherwise e None = done []
    otherwise e (Some text) = e.expand text

-- `or` [GNU make manual, "Functions for Conditionals"]
unfoldable pub apply_or : Evaluator → List Text → Step Text
apply_or e [] = done []
apply_or e (text ∷ texts) = do
  x ← e.expand (stripped text)
  if length x == 0 then apply_or e texts else done x

-- `and`: returns the first empty value, or else the last [GNU make manual, "Functions for Conditionals"]
unfoldable pub apply_and : Evaluator → List Text → Step Text
apply_and e [] = done []
apply_and e (text ∷ texts) = do
  x ← e.expand (stripped text)
  if length x == 0 || length texts == 0 then done x else apply_and e texts

-- the body for each word in turn, appended to the text so far after a separator
unfoldable pub each_word : Evaluator → Text → Text → Text → Text → List Text → Step Text
each_word e name body out separator [] = done out
each_word e name body out separator (word ∷ words) = do
  change (bind (Loop name word))
  x ← e.expand body
  change unbind
  each_word e name body (out ++ (separator ++ x)) (codes " ") words

-- `foreach` [GNU make manual, "The foreach Function"]
unfoldable pub apply_foreach : Evaluator → Text → Text → Text → Step Text
apply_foreach e variable list body = do
  name ← e.expand variable
  words ← e.expand list
  each_word e (stripped name) body [] [] (words_of words)

-- the value of the called macro, with its name and arguments bound
unfoldable pub called : Evaluator → Text → List Text → Step Text
called e name arguments = do
  change (bind (Call arguments))
  x ← (λ w. value_of e (lookup name w) w)
  change unbind
  done x

-- a call of a macro with this name, which no function may have; the other arguments are expanded first
unfoldable pub call_by_name : Evaluator → Text → List Text → Step Text
call_by_name e name texts = if is_function_name name then refused_function name else (do
  arguments ← each_argument e (name ∷ []) texts
  called e name arguments)

-- `call`, of a macro alone [GNU make manual, "The call Function"]
unfoldable pub apply_call : Evaluator → List Text → Step Text
apply_call e [] = done []
apply_call e (text ∷ texts) = do
  x ← e.expand text
  call_by_name e (stripped x) texts

-- `value` [GNU make manual, "The value Function"]
unfoldable pub apply_value : Evaluator → Text → Step Text
apply_value e text = do
  name ← e.expand text
  λ w. Gave w (raw_value (lookup name w))

-- `eval`, which no recipe may call (kati's own) [GNU make manual, "The eval Function"]
unfoldable pub apply_eval : Evaluator → Text → Step Text
apply_eval e text =
    if e.reads then (do
      x ← e.expand text
      e.eval x
      done [])
    else stop kinds.EvalInRecipe []

-- `error`: the expanded text is the message of a fault [GNU make manual, "Functions That Control Make"]
unfoldable pub apply_error : Evaluator → Text → Step Text
apply_error e text = do
  x ← e.expand text
  stop kinds.ErrorCalled x

-- `warning`: the expanded text is a message with the current place; the result is empty [GNU make manual, "Functions
-- That Control Make"]
unfoldable pub apply_warning : Evaluator → Text → Step Text
apply_warning e text = do
  x ← e.expand text
  change (warn x)
  done []

-- `info`: the expanded text is a message; the result is empty [GNU make manual, "Functions That Control Make"]
unfoldable pub apply_info : Evaluator → Text → Step Text
apply_info e text = do
  x ← e.expand text
  change (say x)
  done []

-- one case for each function that isn't a text function
abbrev pub apply_other : Evaluator → Function → List Text → Step Text
apply_other e function.If (condition ∷ chosen ∷ []) = apply_if e condition chosen None
apply_other e function.If (condition ∷ chosen ∷ other ∷ []) = apply_if e condition chosen (Some other)
apply_other e function.If arguments = bad_argument (codes "if")
apply_other e function.Or arguments = apply_or e arguments
apply_other e function.And arguments = apply_and e arguments
apply_other e function.Foreach (variable ∷ list ∷ body ∷ []) = apply_foreach e variable list body
apply_other e function.Foreach arguments = bad_argument (codes "foreach")
apply_other e function.Call arguments = apply_call e arguments
apply_other e function.Value (text ∷ []) = apply_value e text
apply_other e function.Value arguments = bad_argument (codes "value")
apply_other e function.Eval (text ∷ []) = apply_eval e text
apply_other e function.Eval arguments = bad_argument (codes "eval")
apply_other e function.Error (text ∷ []) = apply_error e text
apply_other e function.Error arguments = bad_argument (codes "error")
apply_other e function.Warning (text ∷ []) = apply_warning e text
apply_other e function.Warning arguments = bad_argument (codes "warning")
apply_other e function.Info (text ∷ []) = apply_info e text
apply_other e function.Info arguments = bad_argument (codes "info")
apply_other e (function.Text text_function) arguments = apply_text e text_function arguments

-- what a call of a function expands to, from the arguments as written
unfoldable pub apply : Evaluator → Function → List Text → Step Text
apply e function arguments = apply_other e function arguments

-- a body with a dollar is expanded, one level deeper
unfoldable pub body_of : Evaluator → Text → Step Text
body_of e body = if list_any (λ byte. byte == 36) body then e.expand body else done body

-- the value of a name, its words replaced if the reference says so
unfoldable pub value_named : Evaluator → Naming → Step Text
value_named e (plainly name) w = value_of e (lookup name w) w
value_named e (substituting name pattern replacement) w =
    (do
      value ← value_of e (lookup name w)
      accepted (codes "patsubst") (patsubst_of pattern replacement value)) w

-- the expansion of a reference
unfoldable pub referred : Evaluator → Request → Step Text
referred e (calls function arguments) = apply e function arguments
referred e (refuses name) = refused_function name
referred e (refers body) = do
  x ← body_of e body
  value_named e (naming_of x)

-- the expansion of a term
unfoldable pub term_of : Evaluator → Term → Step Text
term_of e (literal bytes) = done bytes
term_of e dollar = done (codes "$")
term_of e (reference mark body) = referred e (request_by_mark mark body)
term_of e unclosed = stop kinds.UnterminatedReference []

-- the terms expanded in turn, each appended to the text so far
unfoldable pub each_term : Evaluator → Text → List Term → Step Text
each_term e out [] = done out
each_term e out (piece ∷ pieces) = do
  x ← term_of e piece
  each_term e (out ++ x) pieces

-- a text at the level of its caller
unfoldable pub expanded : Evaluator → Text → Step Text
expanded e text = each_term e [] (terms_of text)
