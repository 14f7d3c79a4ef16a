use Rattle.std.proofs.Common.{◌≡◌, []}
use Rattle.kt_text.specs.Words.{words_of}
use Rattle.kt_text.proofs.lemmas.ListLemmas.{last_after}
use Rattle.kt_text.proofs.functions.list.last_word.Given as goal

abbrev pub invariant-loop-word : goal.invariant-loop-word
invariant-loop-word l = last_after l.last l.word-iterator ≡ last_after [] (words_of l.text)
