use Rattle.std.proofs.Common.{◌≡◌, ◌++◌, List, fold}
use Rattle.kt_rules.proofs.Common.{Text, with_name, names_view}
use Rattle.kt_rules.proofs.book.special.add_all.Given as goal

abbrev pub invariant-loop-name : goal.invariant-loop-name
invariant-loop-name l = record {
  left : fold with_name l.names (names_view l.name-iterator) ≡ fold with_name l.fn.names (names_view l.fn.more);
  grown : (added : List Text) × (l.names ≡ l.fn.names ++ added);
}
