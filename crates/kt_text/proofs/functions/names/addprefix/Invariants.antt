use Rattle.std.proofs.Common.{◌≡◌, map, ◌++◌}
use Rattle.kt_text.specs.Words.{words_of, list_text}
use Rattle.kt_text.proofs.lemmas.ListLemmas.{put_words}
use Rattle.kt_text.proofs.functions.names.addprefix.Given as goal

abbrev pub invariant-loop-word : goal.invariant-loop-word
invariant-loop-word l = put_words l.prefixed.items (map (λ word. l.prefix ++ word) l.word-iterator) ≡ list_text (map (λ word. l.prefix ++ word) (words_of l.names))
