use Rattle.std.proofs.Common.{sym, ◌∙◌}
use Rattle.kt_eval.proofs.lemmas.expanding.FunctionLemmas.{told_first}
use Rattle.kt_eval.proofs.expanding.calls.function_of.Goals as goal

pub returns-in-Some : goal.returns-in-Some
returns-in-Some c = sym (told_first c.args.name.now c.in-Some.function (sym c.other_function.ensures ∙ c.in-Some.is))
