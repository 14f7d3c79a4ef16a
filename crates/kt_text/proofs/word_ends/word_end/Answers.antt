use Rattle.std.proofs.Common.{arith}
use Rattle.kt_text.proofs.Common.{take_rest}
use Rattle.kt_text.proofs.lemmas.SureLemmas.{found_past, sure_is_none}
use Rattle.kt_text.proofs.word_ends.word_end.Goals as goal

pub returns-clause-value : goal.returns-clause-value
returns-clause-value c = grind (arith, take_rest, found_past, sure_is_none)
