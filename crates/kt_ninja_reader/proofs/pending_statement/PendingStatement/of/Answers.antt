use Rattle.std.proofs.Common.{arith}
use Rattle.kt_ninja_reader.proofs.Common.{err_from_is_err_and}
use Rattle.kt_ninja_reader.proofs.lemmas.PieceLemmas.{refuses_too}
use Rattle.kt_ninja_reader.proofs.lemmas.StateLemmas.{no_implicit, no_inputs, no_order_only}
use Rattle.kt_ninja_reader.proofs.pending_statement.PendingStatement.of.Goals as goal

pub returns-in_err-inputs : goal.returns-in_err-inputs
returns-in_err-inputs c = grind (arith, err_from_is_err_and, refuses_too, no_inputs)

pub returns-in_err-implicit : goal.returns-in_err-implicit
returns-in_err-implicit c = grind (arith, err_from_is_err_and, refuses_too, no_implicit)

pub returns-in_err-order_only : goal.returns-in_err-order_only
returns-in_err-order_only c = grind (arith, err_from_is_err_and, refuses_too, no_order_only)
