use Rattle.std.proofs.Common.{◌≡◌, drop}
use Rattle.kt_rules.specs.inner.SuffixCuts.{earlier, first_cut}
use Rattle.kt_rules.proofs.book.suffix.first_cut.Given as goal

abbrev pub invariant-loop-front : goal.invariant-loop-front
invariant-loop-front l = earlier l.first (first_cut l.suffixes (drop l.front-index l.lengths) l.name) ≡ first_cut l.suffixes l.lengths l.name
