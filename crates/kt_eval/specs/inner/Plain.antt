-- The text of a term that needs no further level: a literal, and the value of a plainly named macro that expands to
-- itself (kati's own).
use Rattle.std.specs.Prelude.{ℕ, Bool, true, not, ◌&&◌, ◌==◌, [], ◌++◌, Option, Some, None, codes, if◌then◌else◌}
use Rattle.kt_eval.specs.Prelude.{list_any, Text, Term, literal, dollar, reference, unclosed, Flavour, Deferred}
use Rattle.kt_eval.specs.Prelude.{Immediate, FoundValue, Step}
use Rattle.kt_eval.specs.declared.state.TermRest.{TermRest}
use Rattle.kt_eval.specs.declared.state.TermRest.TheVariants.{Nothing, Value, Whole}
use Rattle.kt_eval.specs.State.{World, lookup}
use Rattle.kt_eval.specs.Outcome.{◌>>=◌, done}
use Rattle.kt_eval.specs.views.expanding.Calls.{names_plainly}
use Rattle.kt_eval.specs.expanding.Expansion.{Evaluator, term_of}

-- whether a value expands to itself: it isn't expanded again, or a level is left and it has no dollar
abbrev pub is_plain : ℕ → Flavour → Text → Bool
is_plain below Immediate value = true
is_plain below Deferred value = not (below == 0) && not (list_any (λ byte. byte == 36) value)

abbrev pub put_if : Bool → Text → Text
put_if plain value = if plain then value else []

abbrev pub left_unless : Bool → Text → Option Text
left_unless plain value = if plain then None else Some value

-- what was found for a name, if it expands to itself, and then what remains to be expanded
unfoldable pub put_of : ℕ → Option FoundValue → Text
put_of below None = []
put_of below (Some found) = put_if (is_plain below found.flavour found.value) found.value

unfoldable pub still_deferred : ℕ → Option FoundValue → Option Text
still_deferred below None = None
still_deferred below (Some found) = left_unless (is_plain below found.flavour found.value) found.value

abbrev pub value_left : Option Text → TermRest
value_left None = Nothing
value_left (Some value) = Value value

-- the text of a term that needs no further level, and what remains of the term
unfoldable pub put_by : ℕ → Term → World → Text
put_by below (literal bytes) w = bytes
put_by below dollar w = codes "$"
put_by below (reference mark body) w = if names_plainly mark body then put_of below (lookup body w) else []
put_by below unclosed w = []

unfoldable pub left_by : ℕ → Term → World → TermRest
left_by below (literal bytes) w = Nothing
left_by below dollar w = Nothing
left_by below (reference mark body) w =
    if names_plainly mark body then value_left (still_deferred below (lookup body w)) else Whole
left_by below unclosed w = Whole

-- a text with the expansion of a term after it
unfoldable pub with_term : Evaluator → Text → Term → Step Text
with_term e out piece = do
  x ← term_of e piece
  done (out ++ x)
