use Rattle.std.proofs.Common.{◌≡◌, filter}
use Rattle.kt_text.proofs.Common.{words_of, list_text, matches_some}
use Rattle.kt_text.proofs.lemmas.ListLemmas.{put_words}
use Rattle.kt_text.proofs.functions.substitution.filter.Given as goal

abbrev pub invariant-loop-word : goal.invariant-loop-word
invariant-loop-word l = put_words l.kept.items (filter (λ word. matches_some (words_of l.patterns) word) l.word-iterator) ≡ list_text (filter (λ word. matches_some (words_of l.patterns) word) (words_of l.text))
