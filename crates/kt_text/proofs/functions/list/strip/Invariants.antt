use Rattle.std.proofs.Common.{◌≡◌}
use Rattle.kt_text.specs.Words.{words_of, list_text}
use Rattle.kt_text.proofs.lemmas.ListLemmas.{put_words}
use Rattle.kt_text.proofs.functions.list.strip.Given as goal

abbrev pub invariant-loop-word : goal.invariant-loop-word
invariant-loop-word l = put_words l.stripped.items l.word-iterator ≡ list_text (words_of l.text)
