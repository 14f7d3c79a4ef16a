use Rattle.std.proofs.Common.{arith}
use Rattle.kt_recipe.proofs.Common.{IfOk-weaker}
use Rattle.kt_recipe.proofs.OnlyPartLemmas.{inputs_of_only_part}
use Rattle.kt_recipe.proofs.automatic.each_name.Goals as goal

pub returns-then-is_only_part : goal.returns-then-is_only_part
returns-then-is_only_part c = grind (arith, IfOk-weaker, inputs_of_only_part)
