use Rattle.std.proofs.Common.{◌≡◌, ◌++◌, ◌&&◌, filter, map}
use Rattle.kt_rules.proofs.Common.{bytes_eq, Text, is_explicit, numbers_in, suffixes_of, entry_view, targets_view}
use Rattle.kt_rules.specs.views.Indexes.{noted_at}
use Rattle.kt_rules.proofs.book.Book.note_entry.Given as goal

abbrev pub invariant-loop-target : goal.invariant-loop-target
invariant-loop-target l = (name : Text)
    → noted_at l.index name ++ map (λ target. l.number) (filter (λ target. bytes_eq name target.name && is_explicit (suffixes_of l.self) ((entry_view l.entry), target)) (targets_view l.target-iterator))
    ≡ noted_at l.fn.index name ++ numbers_in (suffixes_of l.self) name (l.number, (entry_view l.entry))
