-- No name is that of a text function and of another one.
use Rattle.std.proofs.Common.{◌≡◌, Bool, true, false, Option, Some, None, codes, if◌then◌else◌, refl, ap, ◌∙◌, arith}
use Rattle.kt_eval.proofs.Common.{Text, bytes_eq, bytes_eq-Decides}
use Rattle.kt_eval.specs.Prelude.{Function}
use Rattle.kt_eval.specs.expanding.Calls.{function_of, other_function, text_or}
use Rattle.kt_eval.specs.declared.expanding.function.Function.TheVariants as function
use Rattle.kt_text.specs.TextFunctions.{text_function}

-- a chain of names that goes on where this one is another
apart : (name own : Text) (is : Bool) (function : Function) (rest : Option Function) (found : Function)
    → bytes_eq name own ≡ is → text_function own ≡ None → (rest ≡ Some found → text_function name ≡ None)
    → (if is then Some function else rest) ≡ Some found → text_function name ≡ None
apart name own true function rest found same none later told =
    ap text_function ((bytes_eq-Decides name own).0 same) ∙ none
apart name own false function rest found same none later told = later told

others_are_apart : (name : Text) (found : Function) → other_function name ≡ Some found → text_function name ≡ None
unfolding other_function text_function
others_are_apart name found told =
    apart name (codes "if") _ function.If _ found refl refl
    (apart name (codes "or") _ function.Or _ found refl refl
    (apart name (codes "and") _ function.And _ found refl refl
    (apart name (codes "foreach") _ function.Foreach _ found refl refl
    (apart name (codes "call") _ function.Call _ found refl refl
    (apart name (codes "value") _ function.Value _ found refl refl
    (apart name (codes "eval") _ function.Eval _ found refl refl
    (apart name (codes "error") _ function.Error _ found refl refl
    (apart name (codes "warning") _ function.Warning _ found refl refl
    (apart name (codes "info") _ function.Info _ found refl refl
    (λ none. grind arith)))))))))) told

-- what isn't a text function is told before these
pub told_first : (name : Text) (found : Function) → other_function name ≡ Some found → function_of name ≡ Some found
unfolding function_of
told_first name found told = ap (λ text. text_or text (other_function name)) (others_are_apart name found told) ∙ told
