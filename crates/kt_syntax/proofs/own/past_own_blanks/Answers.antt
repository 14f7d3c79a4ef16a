use Rattle.std.proofs.Common.{arith}
use Rattle.std.proofs.lemmas.Bool.{eqb-true, false_from_ne_true}
use Rattle.kt_syntax.proofs.lemmas.OwnRuns.{blanks_passed}
use Rattle.kt_syntax.proofs.own.past_own_blanks.Goals as goal

pub returns-clause-quick_value : goal.returns-clause-quick_value
returns-clause-quick_value c = grind (arith, blanks_passed, false_from_ne_true, eqb-true)
