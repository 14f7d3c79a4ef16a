use Rattle.std.proofs.Common.{◌≡◌, ◌≤◌, ◌+◌, ◌++◌, length}
use Rattle.kt_text.proofs.Common.{lines_of, groups, logical_lines_of}
use Rattle.kt_text.proofs.lemmas.LogicalLemmas.{lines_left}
use Rattle.kt_text.proofs.logical.cut_lines.Given as goal

abbrev pub invariant-loop-rest : goal.invariant-loop-rest
invariant-loop-rest l = record {
  cut : l.lines.items ++ lines_left l.continued l.begin l.at l.number (groups (lines_of l.rest)) ≡ logical_lines_of l.text;
  place : l.at + length l.rest ≡ length l.text;
  numbered : l.number ≤ l.at + 1;
}

abbrev pub decreases-loop-rest : goal.decreases-loop-rest
decreases-loop-rest l = length l.rest
