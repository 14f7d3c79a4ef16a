use Rattle.std.proofs.Common.{◌≡◌, map}
use Rattle.kt_text.proofs.Common.{words_of, list_text, patsubst_word}
use Rattle.kt_text.proofs.lemmas.ListLemmas.{put_words}
use Rattle.kt_text.proofs.functions.substitution.patsubst.Given as goal

abbrev pub invariant-loop-word : goal.invariant-loop-word
invariant-loop-word l = put_words l.replaced.items (map (patsubst_word l.pattern l.replacement) l.word-iterator) ≡ list_text (map (patsubst_word l.pattern l.replacement) (words_of l.text))
