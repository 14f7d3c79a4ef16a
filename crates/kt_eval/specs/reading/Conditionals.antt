-- Which conditions hold (GNU make manual, "Syntax of Conditionals").
use Rattle.std.specs.Prelude.{Bool, true, false, not, List, [], ◌∷◌, take, drop, bytes_eq, Option, Some, None}
use Rattle.kt_eval.specs.Prelude.{prefix_len, Form, directive, form_of, plain_of, lookup, raw_value, Step, stop}
use Rattle.kt_text.specs.Words.{Text, is_blank, is_nonempty, trimmed_start, words_of}
use Rattle.kt_syntax.specs.declared.form.Directive.{Directive}
use Rattle.kt_syntax.specs.declared.form.Directive.TheVariants as word
use Rattle.kt_rules.specs.declared.fault_kind.FaultKind.TheVariants as kinds
use Rattle.kt_eval.specs.Outcome.{Gave, ◌>>=◌, done}
use Rattle.kt_eval.specs.reading.Conditions.{ComparedTexts, compared_of}
use Rattle.kt_eval.specs.expanding.Expansion.{Evaluator, expanded}

-- the fault for a condition that has none of the forms
abbrev pub bad_conditional : {A : Type 0} → Step A
bad_conditional = stop kinds.BadConditional []

-- whether the one macro that is named has an unexpanded value that isn't empty
unfoldable pub is_set : List Text → Step Bool
is_set (name ∷ []) w = Gave w (is_nonempty (raw_value (lookup name w)))
is_set names w = bad_conditional w

-- whether the macro that an expanded text names has a value that isn't empty, as `ifdef` asks
unfoldable pub is_defined : Evaluator → Text → Step Bool
is_defined e text = do
  x ← expanded e text
  is_set (words_of x)

-- whether two texts are the same after they are expanded
unfoldable pub are_equal : Evaluator → Option ComparedTexts → Step Bool
are_equal e None = bad_conditional
are_equal e (Some compared) = do
  x ← expanded e compared.first
  y ← expanded e compared.second
  done (bytes_eq x y)

-- whether a condition holds, from its word and the text after it
unfoldable pub holds : Evaluator → Directive → Text → Step Bool
holds e word.Ifdef text = is_defined e text
holds e word.Ifndef text = do
  found ← is_defined e text
  done (not found)
holds e word.Ifeq text = are_equal e (compared_of text)
holds e word.Ifneq text = do
  same ← are_equal e (compared_of text)
  done (not same)
holds e other text = bad_conditional

-- the first word of a text: all bytes before the first blank
abbrev pub word_before_blank : Text → Text
word_before_blank text = take (prefix_len (λ byte. not (is_blank byte)) text) text

-- the text after its first word and the blanks behind that
abbrev pub text_after_word : Text → Text
text_after_word text = trimmed_start (drop (prefix_len (λ byte. not (is_blank byte)) text) text)

-- whether a condition holds, from its classified word and the text after it
abbrev pub worded_holds : Evaluator → Form → Text → Step Bool
worded_holds e (directive word rest) text = holds e word text
worded_holds e other text = bad_conditional

-- whether the condition holds that a text is, as the text after an `else` may be
unfoldable pub text_holds : Evaluator → Text → Step Bool
text_holds e text = worded_holds e (form_of (word_before_blank text) false) (text_after_word text)

-- whether an `else` is taken: without a condition it always is
unfoldable pub else_holds : Evaluator → Bool → Text → Step Bool
else_holds e false rest = done true
else_holds e true rest = text_holds e (plain_of rest)

-- whether the branch of a line is taken: of the first line of a conditional, and of a further one with or without a
-- condition
unfoldable pub line_holds : Evaluator → Bool → Form → Step Bool
line_holds e condition (directive word.Else rest) = else_holds e condition rest
line_holds e condition (directive word rest) = holds e word (plain_of rest)
line_holds e condition other = bad_conditional
