use Rattle.std.proofs.Common.{arith}
use Rattle.std.proofs.lemmas.Bool.Decides.{nat_tests}
use Rattle.kt_rules.proofs.lemmas.line.WrittenLemmas.{none_written}
use Rattle.kt_rules.proofs.line.written.first_word.Goals as goal

pub returns-then-is_empty : goal.returns-then-is_empty
returns-then-is_empty c = none_written c.args.text.now _ c.stripped_start-words.ensures (grind (arith, nat_tests))
