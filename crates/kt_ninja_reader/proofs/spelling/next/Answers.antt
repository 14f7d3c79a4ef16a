use Rattle.std.proofs.Common.{arith}
use Rattle.kt_ninja_reader.proofs.lemmas.PieceLemmas.{cuts_option}
use Rattle.kt_ninja_reader.proofs.lemmas.SpelledLemmas.{next_none, next_read}
use Rattle.kt_ninja_reader.proofs.spelling.next.Goals as goal

pub returns-in_err-after : goal.returns-in_err-after
returns-in_err-after c = rw c.from_residual.ensures c.in_err-after.ensures

pub returns : goal.returns
returns c = grind (arith, cuts_option, next_none, next_read)
