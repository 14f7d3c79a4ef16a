use Rattle.std.proofs.Common.{◌≡◌, ◌++◌, drop}
use Rattle.kt_ninja_reader.proofs.forms.copy.Given as goal

abbrev pub invariant-loop-word : goal.invariant-loop-word
invariant-loop-word l = l.copies.items ++ drop l.word-index l.words ≡ l.words
