use Rattle.std.proofs.Common.{◌≡◌, map, drop}
use Rattle.kt_text.proofs.Common.{words_of, list_text, suffix_place}
use Rattle.kt_text.proofs.lemmas.ListLemmas.{put_words}
use Rattle.kt_text.proofs.functions.names.suffix.Given as goal

abbrev pub invariant-loop-word : goal.invariant-loop-word
invariant-loop-word l = put_words l.suffixes.items (map (λ word. drop (suffix_place word) word) l.word-iterator) ≡ list_text (map (λ word. drop (suffix_place word) word) (words_of l.names))
