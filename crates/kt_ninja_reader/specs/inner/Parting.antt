-- Lines cut off part by part (the reader's own).
use Rattle.std.specs.Prelude.{◌≡◌, ◌<◌, ◌≤◌, ℕ, List, [], ◌∷◌, drop, length}
use Rattle.kt_ninja_reader.specs.declared.ninja_read.PartLines.{PartLines}
use Rattle.kt_ninja_reader.specs.JoinedLines.{JoinedLine}
use Rattle.kt_ninja_reader.specs.NinjaRead.{cut_lines}
use Rattle.kt_ninja_reader.specs.inner.Reading.{file_part}

-- at this place begins this part, and after it the next
pub record CutsPart (lines : List JoinedLine) (from : ℕ) (part : PartLines) : Type 0 where
  pub parts : (cut_lines (drop from lines)).parts
      ≡ file_part part.head.now part.body.now ∷ (cut_lines (drop part.next lines)).parts
  pub begun : (cut_lines (drop part.next lines)).before ≡ []
  pub more : from < part.next
  pub bound : part.next ≤ length lines
