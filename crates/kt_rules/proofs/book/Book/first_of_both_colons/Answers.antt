use Rattle.std.proofs.Common.{arith}
use Rattle.kt_rules.proofs.lemmas.book.FindLemmas.{find_left}
use Rattle.kt_rules.proofs.book.Book.first_of_both_colons.Goals as goal

pub returns-then-differs : goal.returns-then-differs
returns-then-differs c = grind (arith, find_left)

pub loop-target-preserved : goal.loop-target-preserved
loop-target-preserved c = grind (arith, find_left)

pub returns : goal.returns
returns c = grind arith
