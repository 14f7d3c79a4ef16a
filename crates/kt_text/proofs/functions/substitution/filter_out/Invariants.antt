use Rattle.std.proofs.Common.{◌≡◌, filter, not}
use Rattle.kt_text.proofs.Common.{words_of, list_text, matches_some}
use Rattle.kt_text.proofs.lemmas.ListLemmas.{put_words}
use Rattle.kt_text.proofs.functions.substitution.filter_out.Given as goal

abbrev pub invariant-loop-word : goal.invariant-loop-word
invariant-loop-word l = put_words l.left.items (filter (λ word. not (matches_some (words_of l.patterns) word)) l.word-iterator) ≡ list_text (filter (λ word. not (matches_some (words_of l.patterns) word)) (words_of l.text))
