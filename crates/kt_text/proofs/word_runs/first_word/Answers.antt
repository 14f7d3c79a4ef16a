use Rattle.std.proofs.Common.{length, take, arith}
use Rattle.std.proofs.lemmas.Bool.Decides.{nat_tests}
use Rattle.kt_text.proofs.lemmas.WordLemmas.{first_word_cut, no_first_word}
use Rattle.kt_text.proofs.word_runs.first_word.Goals as goal

pub returns : goal.returns
returns c = grind (arith, length, take, nat_tests, first_word_cut)
