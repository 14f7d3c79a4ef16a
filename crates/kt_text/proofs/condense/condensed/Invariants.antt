use Rattle.std.proofs.Common.{◌≡◌, ◌++◌, length}
use Rattle.kt_text.specs.Lines.{groups, newline_pieces, condensed_of}
use Rattle.kt_text.proofs.lemmas.CondensedLemmas.{left_text}
use Rattle.kt_text.proofs.condense.condensed.Given as goal

abbrev pub invariant-loop-rest : goal.invariant-loop-rest
invariant-loop-rest l = l.out.items ++ left_text l.continued (groups (newline_pieces l.rest)) ≡ condensed_of l.text

abbrev pub decreases-loop-rest : goal.decreases-loop-rest
decreases-loop-rest l = length l.rest
