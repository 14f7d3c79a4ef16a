use Rattle.std.proofs.Common.{◌≡◌, drop, find}
use Rattle.kt_text.specs.TextFunctions.{has_name}
use Rattle.kt_text.proofs.functions.text_function.named_among.Given as goal

abbrev pub invariant-loop-function : goal.invariant-loop-function
invariant-loop-function l =
    find (has_name l.name) (drop l.function-index l.functions) ≡ find (has_name l.name) l.functions
