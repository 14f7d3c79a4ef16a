use Rattle.kt_rules_laws.proofs.HeadWordLemmas.{written_words_law}
use Rattle.kt_rules_laws.proofs.laws.words_of_a_head.Goals as goal

pub returns : goal.returns
returns c = written_words_law
