use Rattle.std.proofs.Common.{◌≡◌}
use Rattle.kt_rules.proofs.Common.{KeepLengths, lengths_with, names_view}
use Rattle.kt_rules.proofs.book.suffixes.note_needed.Given as goal

abbrev pub invariant-loop-name : goal.invariant-loop-name
invariant-loop-name l = record {
  left : lengths_with l.lengths.keys (names_view l.name-iterator) ≡ lengths_with l.fn.lengths.keys (names_view l.fn.names);
  kept : KeepLengths l.fn.lengths.keys l.lengths.keys;
}
