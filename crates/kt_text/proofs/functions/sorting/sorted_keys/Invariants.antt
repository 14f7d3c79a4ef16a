use Rattle.std.proofs.Common.{◌≡◌, ◌++◌}
use Rattle.kt_text.specs.Words.{words_of}
use Rattle.kt_text.proofs.functions.sorting.sorted_keys.Given as goal

abbrev pub invariant-loop-word : goal.invariant-loop-word
invariant-loop-word l = l.keys.items ++ l.word-iterator ≡ words_of l.text
