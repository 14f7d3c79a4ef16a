use Rattle.std.proofs.Common.{arith}
use Rattle.kt_rules.proofs.book.book_names.BookNames.contains.Goals as goal

pub returns-in-Some : goal.returns-in-Some
returns-in-Some c = grind arith

pub returns-in-None : goal.returns-in-None
returns-in-None c = grind arith
