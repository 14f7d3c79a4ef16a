use Rattle.std.proofs.Common.{◌≡◌}
use Rattle.kt_text.proofs.Common.{slice_range, words_of, list_text}
use Rattle.kt_text.proofs.lemmas.ListLemmas.{put_words}
use Rattle.kt_text.proofs.functions.list.words_between.Given as goal

abbrev pub invariant-loop-word : goal.invariant-loop-word
invariant-loop-word l = put_words l.selected.items (slice_range l.word-iterator l.skipped l.left) ≡ list_text (slice_range (words_of l.text) l.start l.end)
