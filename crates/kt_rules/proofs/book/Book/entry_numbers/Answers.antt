use Rattle.std.proofs.Common.{length, arith}
use Rattle.kt_rules.proofs.Common.{append_assoc, append-nil}
use Rattle.kt_rules.proofs.lemmas.book.NumberLemmas.{numbers_start, numbers_step}
use Rattle.kt_rules.proofs.book.Book.entry_numbers.Goals as goal

pub loop-number-init : goal.loop-number-init
loop-number-init c = grind (arith, length, numbers_start)

pub loop-number-preserved : goal.loop-number-preserved
loop-number-preserved c = grind (arith, length, append_assoc, numbers_step)

pub returns : goal.returns
returns c = grind (arith, append-nil)
