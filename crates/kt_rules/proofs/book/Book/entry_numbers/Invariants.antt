use Rattle.std.proofs.Common.{◌≡◌, ◌++◌, ◌+◌, ◌<◌, ◌^◌, length}
use Rattle.kt_rules.proofs.Common.{enumerate_from, flat_map, Text, explicit_numbers, numbers_in, suffixes_of}
use Rattle.kt_rules.specs.views.Indexes.{noted_at}
use Rattle.kt_rules.proofs.book.Book.entry_numbers.Given as goal

abbrev pub invariant-loop-number : goal.invariant-loop-number
invariant-loop-number l = record {
  left : (name : Text) → noted_at l.index name ++ flat_map (numbers_in (suffixes_of l.self) name) (enumerate_from l.number-iterator.count l.number-iterator.iter)
      ≡ explicit_numbers l.self name;
  fits : l.number-iterator.count + length l.number-iterator.iter < 2 ^ 64;
}
