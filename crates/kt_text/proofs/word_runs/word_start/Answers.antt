use Rattle.std.proofs.Common.{arith, length, not}
use Rattle.kt_text.proofs.lemmas.PlaceLemmas.{unwrap_or-position}
use Rattle.kt_text.proofs.word_runs.word_start.Goals as goal

pub returns-clause-value : goal.returns-clause-value
returns-clause-value c = grind (arith, length, unwrap_or-position, not)
