use Rattle.std.proofs.Common.{◌≡◌, map, take}
use Rattle.kt_text.proofs.Common.{words_of, list_text, suffix_place}
use Rattle.kt_text.proofs.lemmas.ListLemmas.{put_words}
use Rattle.kt_text.proofs.functions.names.basename.Given as goal

abbrev pub invariant-loop-word : goal.invariant-loop-word
invariant-loop-word l = put_words l.bases.items (map (λ word. take (suffix_place word) word) l.word-iterator) ≡ list_text (map (λ word. take (suffix_place word) word) (words_of l.names))
