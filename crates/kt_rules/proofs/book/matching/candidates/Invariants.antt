use Rattle.std.proofs.Common.{◌≡◌, ◌++◌}
use Rattle.kt_rules.proofs.Common.{flat_map, patterns_in}
use Rattle.kt_rules.proofs.book.matching.candidates.Given as goal

abbrev pub invariant-loop-entry : goal.invariant-loop-entry
invariant-loop-entry l =
    l.patterns.items ++ flat_map (patterns_in l.suffixes) l.entry-iterator ≡ flat_map (patterns_in l.suffixes) l.rules.1
