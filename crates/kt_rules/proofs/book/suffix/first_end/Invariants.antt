use Rattle.std.proofs.Common.{◌≡◌, drop}
use Rattle.kt_rules.specs.inner.SuffixCuts.{earlier, first_end}
use Rattle.kt_rules.proofs.book.suffix.first_end.Given as goal

abbrev pub invariant-loop-len : goal.invariant-loop-len
invariant-loop-len l = earlier l.first (first_end l.suffixes (drop l.len-index l.lengths) l.name) ≡ first_end l.suffixes l.lengths l.name
