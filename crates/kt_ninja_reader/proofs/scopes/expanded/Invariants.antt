use Rattle.std.proofs.Common.{◌≡◌, ◌++◌, length}
use Rattle.kt_ninja_reader.specs.Scopes.{bound_text, value_within}
use Rattle.kt_ninja_reader.proofs.scopes.expanded.Given as goal

abbrev pub invariant-loop-text : goal.invariant-loop-text
invariant-loop-text l = l.text.items ++ bound_text (value_within l.scopes.block.now l.scopes.file.now) l.rest ≡ bound_text (value_within l.scopes.block.now l.scopes.file.now) l.spelling

abbrev pub decreases-loop-text : goal.decreases-loop-text
decreases-loop-text l = length l.rest
