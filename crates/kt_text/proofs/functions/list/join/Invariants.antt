use Rattle.std.proofs.Common.{◌≡◌}
use Rattle.kt_text.proofs.Common.{words_of, list_text, joined_pairs}
use Rattle.kt_text.proofs.lemmas.ListLemmas.{put_words}
use Rattle.kt_text.proofs.functions.list.join.Given as goal

abbrev pub invariant-loop-front : goal.invariant-loop-front
invariant-loop-front l = put_words l.joined.items (joined_pairs l.front-iterator l.seconds) ≡ list_text (joined_pairs (words_of l.first) (words_of l.second))

abbrev pub invariant-loop-word : goal.invariant-loop-word
invariant-loop-word l = put_words l.joined.items l.word-iterator ≡ list_text (joined_pairs (words_of l.first) (words_of l.second))
