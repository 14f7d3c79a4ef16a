use Rattle.std.proofs.Common.{◌≡◌, length}
use Rattle.kt_rules.proofs.Common.{name_of, written_words, needs_of}
use Rattle.kt_rules.proofs.lemmas.line.NeedsLemmas.{needs_from}
use Rattle.kt_rules.proofs.line.head_names.quoted_needs.Given as goal

abbrev pub invariant-loop-word : goal.invariant-loop-word
invariant-loop-word l =
    needs_from name_of l.after_bar l.prerequisites.items l.order_only.items (written_words l.rest) ≡ needs_of (written_words l.text)

abbrev pub decreases-loop-word : goal.decreases-loop-word
decreases-loop-word l = length (written_words l.rest)
