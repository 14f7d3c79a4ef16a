use Rattle.std.proofs.Common.{arith}
use Rattle.kt_rules.proofs.lemmas.book.FindLemmas.{find_left}
use Rattle.kt_rules.proofs.book.Book.first_beside_group.Goals as goal

pub returns-then-is_beside_group : goal.returns-then-is_beside_group
returns-then-is_beside_group c = grind (arith, find_left)

pub loop-target-preserved : goal.loop-target-preserved
loop-target-preserved c = grind (arith, find_left)

pub returns : goal.returns
returns c = grind arith
