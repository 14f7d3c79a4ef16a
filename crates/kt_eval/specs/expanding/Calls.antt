-- What a reference asks for (GNU make manual, "Basics of Variable References", "Substitution References" and
-- "Function Call Syntax").
use Rattle.std.specs.Prelude.{ℕ, zero, suc, ◌+◌, ◌-◌, Bool, true, false, ◌==◌, ◌&&◌, ◌||◌, List, [], ◌∷◌, ◌++◌, length}
use Rattle.std.specs.Prelude.{take, drop, Option, Some, None, codes, bytes_eq, is_some, if◌then◌else◌}
use Rattle.std.specs.List.{position_or_len, before_first, after_first, list_any}
use Rattle.kt_text.specs.Words.{Text, is_separator, stripped_start, is_colon, is_equals}
use Rattle.kt_text.specs.Match.{has_percent}
use Rattle.kt_eval.specs.Prelude.{Mark, Byte, Parentheses, Braces, Function, TextFunction, arity, text_function}
use Rattle.kt_eval.specs.declared.expanding.function.Function.TheVariants as function

-- the functions that expand by themselves, bind names, read text or report
unfoldable pub other_function : Text → Option Function
other_function name =
    if bytes_eq name (codes "if") then Some function.If
    else (if bytes_eq name (codes "or") then Some function.Or
    else (if bytes_eq name (codes "and") then Some function.And
    else (if bytes_eq name (codes "foreach") then Some function.Foreach
    else (if bytes_eq name (codes "call") then Some function.Call
    else (if bytes_eq name (codes "value") then Some function.Value
    else (if bytes_eq name (codes "eval") then Some function.Eval
    else (if bytes_eq name (codes "error") then Some function.Error
    else (if bytes_eq name (codes "warning") then Some function.Warning
    else (if bytes_eq name (codes "info") then Some function.Info else None)))))))))

-- the first of two, if it is there, or else the second
abbrev pub text_or : Option TextFunction → Option Function → Option Function
text_or None other = other
text_or (Some first) other = Some (function.Text first)

-- the function with this name
unfoldable pub function_of : Text → Option Function
function_of name = text_or (text_function name) (other_function name)

-- the functions that are refused: they ask the host, or for more than a translation keeps (kati's own)
unfoldable pub is_refused_function : Text → Bool
is_refused_function name =
    bytes_eq name (codes "shell") || (bytes_eq name (codes "wildcard") || (bytes_eq name (codes "realpath")
    || (bytes_eq name (codes "abspath") || (bytes_eq name (codes "origin") || (bytes_eq name (codes "flavor")
    || (bytes_eq name (codes "file") || (bytes_eq name (codes "guile") || (bytes_eq name (codes "let")
    || bytes_eq name (codes "intcmp")))))))))

-- the maximum number of commas at which the arguments of a function are cut, if there is a limit; the text after them
-- is part of the last argument
abbrev pub commas : Function → Option ℕ
commas (function.Text text_function) = Some (arity text_function - 1)
commas function.If = Some 2
commas function.Foreach = Some 2
commas function.Or = None
commas function.And = None
commas function.Call = None
commas other = Some 0

-- the byte that opens a reference with this mark: a brace or a parenthesis
abbrev pub opener : Mark → ℕ
opener Braces = 123
opener Parentheses = 40
opener Byte = 40

-- the byte that closes a reference with this mark
abbrev pub closer : Mark → ℕ
closer Braces = 125
closer Parentheses = 41
closer Byte = 41

-- whether one more comma may cut
abbrev pub may_cut : Option ℕ → Bool
may_cut None = true
may_cut (Some zero) = false
may_cut (Some (suc more)) = true

-- whether a byte cuts: a comma that isn't nested, if one more may
abbrev pub cuts_arguments : ℕ → ℕ → Option ℕ → Bool
cuts_arguments byte depth left = byte == 44 && (depth == 0 && may_cut left)

-- how many commas may cut after one did
abbrev pub one_less : Option ℕ → Option ℕ
one_less None = None
one_less (Some more) = Some (more - 1)

-- how many marks of a reference's own kind are nested after a byte
abbrev pub nested : Mark → ℕ → ℕ → ℕ
nested mark depth byte = if byte == opener mark then depth + 1 else (if byte == closer mark then depth - 1 else depth)

-- the arguments, cut byte by byte at commas outside nested marks of the reference's own kind: given are the text so
-- far, how many marks are nested there, and how many commas may cut
unfoldable pub arguments_from : Mark → Option ℕ → ℕ → Text → Text → List Text
arguments_from mark left depth argument [] = argument ∷ []
arguments_from mark left depth argument (byte ∷ text) =
    if cuts_arguments byte depth left then argument ∷ arguments_from mark (one_less left) depth [] text
    else arguments_from mark left (nested mark depth byte) (argument ++ byte ∷ []) text

-- the arguments of a call, from the text after the function's name, given at how many commas it may be cut
unfoldable pub arguments_of : Mark → Option ℕ → Text → List Text
arguments_of mark left text = arguments_from mark left 0 [] text

-- what a reference asks for
pub data Request : Type 0 where
  calls : (function : Function) (arguments : List Text) → Request
  refuses : (name : Text) → Request
  refers : (body : Text) → Request

-- what the body of a reference asks for, from its first word and the text after the separators
abbrev pub request_by_word : Mark → Text → Text → Text → Option Function → Request
request_by_word mark body name rest (Some function) = calls function (arguments_of mark (commas function) rest)
request_by_word mark body name rest None = if is_refused_function name then refuses name else refers body

-- a function's name directly after the opening mark, with a separator after it, makes a call
unfoldable pub asked_of : Mark → Text → Request
asked_of mark body =
    let place = position_or_len is_separator body in
    if place == length body then refers body
    else request_by_word mark body (take place body) (stripped_start (drop place body)) (function_of (take place body))

-- the name in a reference of one byte; a continuation counts as a blank (kati's own)
abbrev pub byte_name : Text → Text
byte_name body = if length body == 1 then body else codes " "

-- what a reference with a mark asks for: a reference of one byte is no call
unfoldable pub request_by_mark : Mark → Text → Request
request_by_mark Byte body = refers (byte_name body)
request_by_mark Parentheses body = asked_of Parentheses body
request_by_mark Braces body = asked_of Braces body

-- the name of a function, refused or not
abbrev pub is_function_name : Text → Bool
is_function_name name = is_some (function_of name) || is_refused_function name

-- a name alone, or one with a pattern and a replacement
pub data Naming : Type 0 where
  plainly : (name : Text) → Naming
  substituting : (name pattern replacement : Text) → Naming

-- a pattern and a replacement without a percent sign are for the ends of words
abbrev pub substituting_ends : Text → Text → Text → Naming
substituting_ends name pattern replacement =
    if has_percent pattern then substituting name pattern replacement
    else substituting name (37 ∷ pattern) (37 ∷ replacement)

-- the first colon, and the first equals sign after it, cut an expanded body [GNU make manual, "Substitution
-- References"]
unfoldable pub naming_of : Text → Naming
naming_of body =
    let rest = after_first is_colon body in
    if list_any is_colon body && list_any is_equals rest
    then substituting_ends (before_first is_colon body) (before_first is_equals rest) (after_first is_equals rest)
    else plainly body
