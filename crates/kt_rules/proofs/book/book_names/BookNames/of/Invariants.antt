use Rattle.std.proofs.Common.{◌≡◌, drop, length}
use Rattle.kt_rules.proofs.Common.{flat_map}
use Rattle.kt_rules.specs.Known.{named_by}
use Rattle.kt_rules.proofs.lemmas.book.MarkLemmas.{IsMarkedFrom}
use Rattle.kt_rules.proofs.book.book_names.BookNames.of.Given as goal

abbrev pub invariant-loop-place : goal.invariant-loop-place
invariant-loop-place l =
    let named = flat_map (named_by l.suffixes) in record {
      marked : IsMarkedFrom l.rules.0 (named l.rules.1) (named (drop l.place l.rules.1)) l.initial.marks l.marks;
      many : length l.marks.numbers.items ≡ length l.rules.0;
    }
