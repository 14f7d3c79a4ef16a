use Rattle.std.proofs.Common.{◌≡◌, drop, length}
use Rattle.kt_list.specs.views.Names.{names_at}
use Rattle.kt_rules.proofs.lemmas.book.MarkLemmas.{IsMarkedFrom}
use Rattle.kt_rules.proofs.book.book_names.Marks.mark_numbers.Given as goal

abbrev pub invariant-loop-number : goal.invariant-loop-number
invariant-loop-number l = record {
  marked : IsMarkedFrom l.names (names_at l.names l.numbers) (names_at l.names (drop l.number-index l.numbers)) l.fn.self l.self;
  many : length l.self.numbers.items ≡ length l.fn.self.numbers.items;
}
