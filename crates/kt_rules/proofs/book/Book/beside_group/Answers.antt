use Rattle.std.proofs.Common.{arith}
use Rattle.kt_rules.proofs.lemmas.book.SparedLemmas.{none_by_groups}
use Rattle.kt_rules.proofs.book.Book.beside_group.Goals as goal

pub returns-then-not-may_have_group : goal.returns-then-not-may_have_group
returns-then-not-may_have_group c = grind (arith, none_by_groups)
