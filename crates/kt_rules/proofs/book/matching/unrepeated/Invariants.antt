use Rattle.std.proofs.Common.{vec_len}
use Rattle.kt_rules.proofs.lemmas.book.PatternLemmas.{IsSorted}
use Rattle.kt_rules.proofs.book.matching.unrepeated.Given as goal

abbrev pub invariant-loop-pattern : goal.invariant-loop-pattern
invariant-loop-pattern l = IsSorted l.fn.patterns.items l.left.items l.kept.items l.past

abbrev pub decreases-loop-pattern : goal.decreases-loop-pattern
decreases-loop-pattern l = vec_len l.left
