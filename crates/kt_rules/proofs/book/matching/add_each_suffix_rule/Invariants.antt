use Rattle.std.proofs.Common.{◌≡◌, ◌++◌, map, filter}
use Rattle.kt_rules.proofs.Common.{filter_map, is_made, suffix_rule_as_pattern, entry_view, targets_view}
use Rattle.kt_rules.specs.inner.Patterns.{suffix_rules_in}
use Rattle.kt_rules.proofs.book.matching.add_each_suffix_rule.Given as goal

abbrev pub invariant-loop-target : goal.invariant-loop-target
invariant-loop-target l =
    l.patterns.items ++ filter_map (suffix_rule_as_pattern l.suffixes) (map (λ target. ((entry_view l.entry), target)) (filter (is_made (entry_view l.entry)) (targets_view l.target-iterator)))
    ≡ l.fn.patterns.items ++ suffix_rules_in l.suffixes (entry_view l.entry)
