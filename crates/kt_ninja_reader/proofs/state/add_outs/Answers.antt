use Rattle.std.proofs.Common.{append-nil, arith}
use Rattle.kt_ninja_reader.proofs.Common.{drop_all}
use Rattle.kt_ninja_reader.proofs.lemmas.StateLemmas.{left_at, new_end, new_refused}
use Rattle.kt_ninja_reader.proofs.state.add_outs.Goals as goal

pub returns-then-contains : goal.returns-then-contains
returns-then-contains c = grind (arith, left_at, new_refused)

pub returns : goal.returns
returns c = grind (arith, drop_all, new_end, append-nil)
