use Rattle.std.proofs.Common.{◌≡◌, drop}
use Rattle.kt_text.proofs.Common.{words_of, list_text, word_set}
use Rattle.kt_text.proofs.lemmas.ListLemmas.{put_words}
use Rattle.kt_text.proofs.functions.sorting.sort.Given as goal

abbrev pub invariant-loop-key : goal.invariant-loop-key
invariant-loop-key l = put_words l.sorted.items (drop l.key-index l.key-items) ≡ list_text (word_set (words_of l.text))
