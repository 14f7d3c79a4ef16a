use Rattle.std.proofs.Common.{◌≡◌, length, true}
use Rattle.kt_rules.proofs.Common.{flat_map, entry_view}
use Rattle.kt_rules.specs.Known.{named_with}
use Rattle.kt_rules.specs.inner.Marks.{HasShared}
use Rattle.kt_rules.proofs.lemmas.book.MarkLemmas.{IsMarkedFrom}
use Rattle.kt_rules.proofs.lemmas.book.NumberedLemmas.{targets_from}
use Rattle.kt_rules.proofs.book.book_names.Marks.mark_rule.Given as goal

abbrev pub invariant-loop-number : goal.invariant-loop-number
invariant-loop-number l =
    let rule = entry_view l.rule in
    let named = flat_map (named_with l.suffixes rule) in record {
      marked : IsMarkedFrom l.rule.names.now (named rule.targets) (named (targets_from l.rule l.number-index)) l.fn.self l.self;
      many : length l.self.numbers.items ≡ length l.fn.self.numbers.items;
      shared : l.shared ≡ true → HasShared l.rule l.self;
    }
