use Rattle.std.proofs.Common.{◌-◌, ◌≤◌, length}
use Rattle.std.specs.List.{prefix_len}
use Rattle.kt_text.specs.inner.Sure.{is_sure}
use Rattle.kt_text.proofs.word_ends.sure_start.Given as goal

abbrev pub invariant-loop-passed : goal.invariant-loop-passed
invariant-loop-passed l = (l.passed ≤ prefix_len is_sure l.text) × (l.passed ≤ length l.text)

abbrev pub decreases-loop-passed : goal.decreases-loop-passed
decreases-loop-passed l = length l.text - l.passed
