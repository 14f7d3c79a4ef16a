use Rattle.std.proofs.Common.{◌≡◌, ◌++◌, length}
use Rattle.kt_ninja_reader.specs.Forms.{spelled_words}
use Rattle.kt_ninja_reader.proofs.forms.words.Given as goal

abbrev pub invariant-loop-word : goal.invariant-loop-word
invariant-loop-word l = l.words.items ++ spelled_words l.rest ≡ spelled_words l.line

abbrev pub decreases-loop-word : goal.decreases-loop-word
decreases-loop-word l = length l.rest
