use Rattle.std.proofs.Common.{arith}
use Rattle.kt_rules.specs.Suffixes.{start_suffixes}
use Rattle.kt_rules.proofs.lemmas.book.StartLemmas.{start_distinct}
use Rattle.kt_rules.proofs.book.special.start_names.Goals as goal

pub loop-suffix-init : goal.loop-suffix-init
unfolding start_suffixes
loop-suffix-init c = grind (arith, start_distinct)
