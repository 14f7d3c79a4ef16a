use Rattle.std.proofs.Common.{◌≡◌, ◌||◌}
use Rattle.kt_text.proofs.Common.{Bor, Text, words_of, matches_held, matches_some}
use Rattle.kt_text.proofs.functions.patterns.WordPatterns.new.Given as goal

abbrev pub invariant-loop-pattern : goal.invariant-loop-pattern
invariant-loop-pattern l =
    (word : Bor Text) → matches_held l.literals.keys l.wildcards.items word.now || matches_some l.pattern-iterator word.now ≡ matches_some (words_of l.text) word.now
