-- What calls add to pieces whose arguments are known.
use Rattle.std.proofs.Common.{◌≡◌, ℕ, ◌==◌, true, false, List, [], ◌∷◌, ◌++◌, length, map, get_or, Bor, Option, Some, None, IfSome, refl, ap, arith, ◌∙◌}
use Rattle.std.proofs.lemmas.Bool.{eq-eqb}
use Rattle.kt_recipe.proofs.Common.{append-nil, Text, reference, Place, Gave, frozen_world, Evaluator, request_by_mark, term_of, referred, apply, each_argument, Macros, Node, automatic_in}
use Rattle.kt_text.specs.Words.{stripped}
use Rattle.kt_text.specs.TextFunctions.{arity}
use Rattle.kt_text.specs.declared.functions.text_function.TextFunction.{TextFunction}
use Rattle.kt_syntax.specs.declared.term.Mark.{Mark}
use Rattle.kt_eval.specs.Step.{Step}
use Rattle.kt_eval.specs.declared.expanding.function.Function.{Function}
use Rattle.kt_eval.specs.expanding.Calls.{calls}
use Rattle.kt_eval.specs.expanding.Expansion.{apply_text, apply_if}
use Rattle.kt_recipe.specs.declared.prepared.PreparedText.{PreparedText}
use Rattle.kt_recipe.specs.inner.Prepared.{Adds, AddsResult, AreText, IsKnown}
use Rattle.kt_recipe.proofs.PreparedLemmas.{added_to_none}

-- ---- what is known

pub some_weaker : {T : Type 0} (found : Option T) (P Q : T → Type 0) → ((x : T) → P x → Q x) → IfSome found P → IfSome found Q
some_weaker found P Q more is = grind arith

-- a text without an automatic macro
pub known_is : (table : Macros) (step : Step Text) (none pieces : PreparedText) (text : Text) → none.gaps.items ≡ [] → none.end.items ≡ []
    → Adds table step none pieces → AreText pieces text → IsKnown table step text
known_is table step none pieces text gaps end adds whole node part place said =
    added_to_none table step none pieces gaps end adds node part place said
    ∙ ap (λ t. Gave (frozen_world table (automatic_in node part) place said) t) (whole node part)

-- the arguments that are left, after those that are known, are all of them
abbrev pub AreKnownUpTo : Macros → Evaluator → List Text → List Text → List Text → Type 0
AreKnownUpTo table e all left now =
    (node : Node) (part : ℕ) (place : Option Place) (said : List Text)
    → each_argument e now left (frozen_world table (automatic_in node part) place said)
    ≡ each_argument e [] all (frozen_world table (automatic_in node part) place said)

pub argument_known : (table : Macros) (e : Evaluator) (all left rest now longer : List Text) (text value x : Text) → left ≡ text ∷ rest
    → longer ≡ now ++ value ∷ [] → value ≡ x → AreKnownUpTo table e all left now → IsKnown table (e.expand text) x → AreKnownUpTo table e all rest longer
unfolding each_argument
argument_known table e all left rest now longer text value x is more same before known node part place said = grind arith

pub arguments_known : (table : Macros) (e : Evaluator) (all left now : List Text) → left ≡ [] → AreKnownUpTo table e all left now → IsKnown table (each_argument e [] all) now
unfolding each_argument
arguments_known table e all left now is before node part place said = grind arith

-- ---- calls

pub two_are : (texts : List (Bor Text)) (past : Bor Text) → length texts ≡ 2 → map (λ text. text.now) texts ≡ (get_or texts 0 past).now ∷ (get_or texts 1 past).now ∷ []
two_are [] past count = absurd (omega arith)
two_are (one ∷ []) past count = absurd (omega arith)
two_are (one ∷ two ∷ []) past count = refl
two_are (one ∷ two ∷ three ∷ more) past count = absurd (omega arith)

pub three_are : (texts : List (Bor Text)) (past : Bor Text) → length texts ≡ 3
    → map (λ text. text.now) texts ≡ (get_or texts 0 past).now ∷ (get_or texts 1 past).now ∷ (get_or texts 2 past).now ∷ []
three_are [] past count = absurd (omega arith)
three_are (one ∷ []) past count = absurd (omega arith)
three_are (one ∷ two ∷ []) past count = absurd (omega arith)
three_are (one ∷ two ∷ three ∷ []) past count = refl
three_are (one ∷ two ∷ three ∷ four ∷ more) past count = absurd (omega arith)

pub call_adds : (table : Macros) (e : Evaluator) (mark : Mark) (body : Text) (function : Function) (texts : List Text) (old new : PreparedText)
    → request_by_mark mark body ≡ calls function texts → Adds table (apply e function texts) old new → Adds table (term_of e (reference mark body)) old new
unfolding term_of referred
call_adds table e mark body function texts old new is adds node part place said =
    let w = frozen_world table (automatic_in node part) place said in
    let more = adds node part place said in
    (more.0, more.1, ap (λ asked. referred e asked w) is ∙ more.2)

pub applied_adds : (table : Macros) (e : Evaluator) (function : TextFunction) (texts arguments : List Text) (old new : PreparedText)
    → length texts ≡ arity function → IsKnown table (each_argument e [] texts) arguments → AddsResult function arguments old new
    → Adds table (apply_text e function texts) old new
unfolding apply_text
applied_adds table e function texts arguments old new counted known result node part place said = grind (arith, eq-eqb, length)

-- the text that an `if` takes where its condition isn't empty
pub chosen_adds : (table : Macros) (e : Evaluator) (condition chosen x : Text) (other : Option Text) (old new : PreparedText)
    → IsKnown table (e.expand (stripped condition)) x → (length x == 0) ≡ false → Adds table (e.expand chosen) old new
    → Adds table (apply_if e condition chosen other) old new
unfolding apply_if
chosen_adds table e condition chosen x other old new known some adds node part place said =
    let more = adds node part place said in
    (more.0, more.1, rw (known node part place said) (rw some more.2))

pub other_adds : (table : Macros) (e : Evaluator) (condition chosen x other : Text) (old new : PreparedText)
    → IsKnown table (e.expand (stripped condition)) x → (length x == 0) ≡ true → Adds table (e.expand other) old new
    → Adds table (apply_if e condition chosen (Some other)) old new
unfolding apply_if
other_adds table e condition chosen x other old new known empty adds node part place said =
    let more = adds node part place said in
    (more.0, more.1, rw (known node part place said) (rw empty more.2))

pub none_chosen_adds : (table : Macros) (e : Evaluator) (condition chosen x : Text) (pieces : PreparedText)
    → IsKnown table (e.expand (stripped condition)) x → (length x == 0) ≡ true → Adds table (apply_if e condition chosen None) pieces pieces
unfolding apply_if
none_chosen_adds table e condition chosen x pieces known empty node part place said = grind (arith, append-nil)
