use Rattle.std.proofs.Common.{arith}
use Rattle.kt_rules.proofs.lemmas.book.SparedLemmas.{none_of_both}
use Rattle.kt_rules.proofs.book.Book.both_colons.Goals as goal

pub returns-then-not-may_have_double : goal.returns-then-not-may_have_double
returns-then-not-may_have_double c = grind (arith, none_of_both)
