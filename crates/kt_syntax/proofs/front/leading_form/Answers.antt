use Rattle.std.proofs.Common.{arith}
use Rattle.kt_syntax.proofs.front.leading_form.Goals as goal

pub returns-in-None : goal.returns-in-None
returns-in-None c = record { quick = grind arith }
