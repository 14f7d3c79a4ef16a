use Rattle.std.proofs.Common.{take, nat_le, arith}
use Rattle.kt_text.proofs.Common.{length-take-le, prefix_len-le-length, trailing_mask_l}
use lib.Count.{count_trailing_zeros}
use Rattle.kt_text.proofs.word_ends.sure_run.Goals as goal

pub returns-else-found-eq0-clause-value : goal.returns-else-found-eq0-clause-value
returns-else-found-eq0-clause-value c = grind (arith, take, length-take-le, nat_le, count_trailing_zeros, trailing_mask_l)

pub returns-else-found-eq0-clause-bound : goal.returns-else-found-eq0-clause-bound
returns-else-found-eq0-clause-bound c = grind (arith, take, length-take-le, nat_le, count_trailing_zeros, trailing_mask_l, prefix_len-le-length)
