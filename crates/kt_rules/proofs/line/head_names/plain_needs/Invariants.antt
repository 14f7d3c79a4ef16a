use Rattle.std.proofs.Common.{◌≡◌}
use Rattle.kt_rules.proofs.Common.{without_dots, written_words, needs_of}
use Rattle.kt_rules.proofs.lemmas.line.NeedsLemmas.{needs_from}
use Rattle.kt_rules.proofs.line.head_names.plain_needs.Given as goal

abbrev pub invariant-loop-word : goal.invariant-loop-word
invariant-loop-word l =
    needs_from without_dots l.after_bar l.prerequisites.items l.order_only.items l.word-iterator ≡ needs_of (written_words l.text)
