use Rattle.std.proofs.Common.{◌≡◌, map, ◌++◌}
use Rattle.kt_text.specs.Words.{words_of, list_text}
use Rattle.kt_text.proofs.lemmas.ListLemmas.{put_words}
use Rattle.kt_text.proofs.functions.names.addsuffix.Given as goal

abbrev pub invariant-loop-word : goal.invariant-loop-word
invariant-loop-word l = put_words l.suffixed.items (map (λ word. word ++ l.suffix) l.word-iterator) ≡ list_text (map (λ word. word ++ l.suffix) (words_of l.names))
