use Rattle.std.proofs.Common.{◌≡◌, ◌≤◌, ◌+◌, ◌++◌, [], length, false}
use Rattle.kt_ninja_reader.specs.JoinedLines.{file_lines, is_blank_line, is_comment, joined_from, joined_lines}
use Rattle.kt_ninja_reader.proofs.lemmas.JoinedLemmas.{begun_by}
use Rattle.kt_ninja_reader.proofs.joined.joined_lines.Given as goal

abbrev pub invariant-loop-rest : goal.invariant-loop-rest
invariant-loop-rest l = record {
  cut : l.lines.items ++ joined_from l.next (begun_by l.begun.going_on l.begun) (file_lines l.rest) ≡ joined_lines l.text;
  numbered : l.begun.going_on ≡ false → l.begun.number ≡ l.next;
  fresh : l.begun.going_on ≡ false → l.begun.text ≡ [];
  blank : l.begun.blank ≡ is_blank_line l.begun.text;
  plain : is_comment l.begun.text ≡ false;
  bound : l.next + length l.rest ≤ length l.text + 1;
}

abbrev pub decreases-loop-rest : goal.decreases-loop-rest
decreases-loop-rest l = length l.rest
