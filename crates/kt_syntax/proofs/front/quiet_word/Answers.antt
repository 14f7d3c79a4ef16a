use Rattle.std.proofs.Common.{arith, length, take-append-drop}
use Rattle.std.proofs.lemmas.Bool.Decides.{nat_tests}
use Rattle.kt_syntax.proofs.lemmas.LeadingForms.{word_taken}
use Rattle.kt_syntax.proofs.front.quiet_word.Goals as goal

pub returns : goal.returns
returns c = record { quick = grind (arith, length, nat_tests, take-append-drop, word_taken) }
