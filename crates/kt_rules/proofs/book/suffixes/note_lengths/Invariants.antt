use Rattle.std.proofs.Common.{◌≡◌, drop}
use Rattle.kt_rules.specs.inner.SuffixCuts.{KeepLengths, lengths_with}
use Rattle.kt_rules.proofs.book.suffixes.note_lengths.Given as goal

abbrev pub invariant-loop-number : goal.invariant-loop-number
invariant-loop-number l = record {
  left : lengths_with l.lengths.keys (drop l.number l.names) ≡ lengths_with l.fn.lengths.keys l.names;
  kept : KeepLengths l.fn.lengths.keys l.lengths.keys;
}
