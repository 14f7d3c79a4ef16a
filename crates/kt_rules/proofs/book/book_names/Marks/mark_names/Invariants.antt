use Rattle.std.proofs.Common.{◌≡◌, length}
use Rattle.kt_rules.specs.views.Targets.{names_view}
use Rattle.kt_rules.proofs.lemmas.book.MarkLemmas.{IsMarkedFrom}
use Rattle.kt_rules.proofs.book.book_names.Marks.mark_names.Given as goal

abbrev pub invariant-loop-name : goal.invariant-loop-name
invariant-loop-name l = record {
  marked : IsMarkedFrom l.names (names_view l.list) (names_view l.name-iterator) l.fn.self l.self;
  many : length l.self.numbers.items ≡ length l.fn.self.numbers.items;
}
