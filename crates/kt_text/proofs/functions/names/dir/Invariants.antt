use Rattle.std.proofs.Common.{◌≡◌, map}
use Rattle.kt_text.proofs.Common.{words_of, list_text, dir_part}
use Rattle.kt_text.proofs.lemmas.ListLemmas.{put_words}
use Rattle.kt_text.proofs.functions.names.dir.Given as goal

abbrev pub invariant-loop-word : goal.invariant-loop-word
invariant-loop-word l = put_words l.directories.items (map dir_part l.word-iterator) ≡ list_text (map dir_part (words_of l.names))
