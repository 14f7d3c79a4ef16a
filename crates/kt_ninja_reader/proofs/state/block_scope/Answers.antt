use Rattle.std.proofs.Common.{arith}
use Rattle.kt_ninja_reader.proofs.Common.{err_from_is_err_and}
use Rattle.kt_ninja_reader.proofs.lemmas.PieceLemmas.{refuses_too}
use Rattle.kt_ninja_reader.proofs.lemmas.StateLemmas.{block_refused, block_taken, told_at}
use Rattle.kt_ninja_reader.proofs.state.block_scope.Goals as goal

pub returns-in_err-add_to_block : goal.returns-in_err-add_to_block
returns-in_err-add_to_block c = grind (arith, err_from_is_err_and, told_at, refuses_too, block_refused)

pub loop-binding-preserved : goal.loop-binding-preserved
loop-binding-preserved c = grind (arith, told_at, block_taken)
