-- How the arguments of a call are cut (GNU make manual, "Function Call Syntax").
use Rattle.std.specs.Prelude.{◌≡◌, ℕ, ◌-◌, ◌<◌, ◌≤◌, List, ◌∷◌, ◌++◌, length, take, drop, Option, Some, None}
use Rattle.std.specs.List.{All}
use Rattle.kt_eval.specs.Prelude.{join_with_byte, Text}
use Rattle.kt_syntax.specs.views.Terms.{byte_count, IsBalanced}
use Rattle.kt_syntax.specs.declared.term.Mark.{Mark}
use Rattle.kt_eval.specs.expanding.Calls.{opener, closer, arguments_of}

-- each mark that opens in the text is closed in it: no end part of it has more opening than closing marks (kati's own:
-- only marks of the reference's own kind count)
abbrev pub IsClosed : Mark → Text → Type 0
IsClosed mark text = (n : ℕ) → byte_count (opener mark) (drop n text) ≤ byte_count (closer mark) (drop n text)

-- each comma of the text is inside marks that are open there
abbrev pub HoldsNoCut : Mark → Text → Type 0
HoldsNoCut mark text = (front back : Text) → text ≡ front ++ 44 ∷ back → ¬ IsClosed mark front

-- a number of commas is within the limit, if there is one
abbrev pub IsUpTo : Option ℕ → ℕ → Type 0
IsUpTo None count = Unit {0}
IsUpTo (Some limit) count = count ≤ limit

-- the text is these arguments with a comma between each two. No argument but the last ends inside marks or holds a
-- comma outside of them. The last holds such commas only if no more commas may cut
pub record AreArguments (mark : Mark) (limit : Option ℕ) (text : Text) (arguments : List Text) : Type 0 where
  pub some : 0 < length arguments
  pub joined : join_with_byte 44 arguments ≡ text
  pub few : IsUpTo limit (length arguments - 1)
  pub closed : All (IsClosed mark) (take (length arguments - 1) arguments)
  pub whole : All (HoldsNoCut mark) (take (length arguments - 1) arguments)
  pub last : IsUpTo limit (length arguments) → All (HoldsNoCut mark) arguments

-- each text is cut into arguments in exactly one way, which `arguments_of` computes, and those of a balanced text are
-- each balanced
pub record ArgumentLaw : Type 0 where
  pub are : (mark : Mark) (limit : Option ℕ) (text : Text) → AreArguments mark limit text (arguments_of mark limit text)
  pub only : (mark : Mark) (limit : Option ℕ) (text : Text) (arguments : List Text)
      → AreArguments mark limit text arguments → arguments ≡ arguments_of mark limit text
  pub balanced : (mark : Mark) (limit : Option ℕ) (text : Text) → IsBalanced (opener mark) (closer mark) text
      → All (IsBalanced (opener mark) (closer mark)) (arguments_of mark limit text)
