-- Joining the lines of a file one after another (the reader's own).
use Rattle.std.specs.Prelude.{◌≡◌, ◌-◌, Bool, true, false, ◌++◌, length, take, if◌then◌else◌}
use Rattle.kt_ninja_reader.specs.declared.line.LineStorage.{LineStorage}
use Rattle.kt_ninja_reader.specs.declared.line.LineStorage.TheVariants.{Plain, Other}
use Rattle.kt_ninja_reader.specs.declared.joined.FileLine.{FileLine as CutLine}
use Rattle.kt_ninja_reader.specs.declared.joined.OpenLine.{OpenLine}
use Rattle.kt_ninja_reader.specs.JoinedLines.{Bytes, FileLine, JoinedLine, goes_on, is_blank_line, is_comment, without_indent}

-- a line as it is held
abbrev pub line_view : LineStorage → JoinedLine
line_view (Plain number text) = record { number = number; text = text.now; ended = true }
line_view (Other line) = record { number = line.value.number; text = line.value.text.items; ended = line.value.ended }

-- a line that was cut off
abbrev pub file_line : CutLine → FileLine
file_line cut = record { bytes = cut.bytes.now; ended = cut.ended }

-- what a line of the file adds to a joined one, or begins it with
abbrev pub added_text : Bool → Bytes → Bytes
added_text true bytes = without_indent bytes
added_text false bytes = bytes

-- the text with a further line
abbrev pub text_with : OpenLine → CutLine → Bytes
text_with begun line = begun.text ++ added_text begun.going_on line.bytes.now

-- the line was joined: where it goes on, without its last dollar
pub record Joins (old : OpenLine) (line : CutLine) (new : OpenLine) : Type 0 where
  pub going_on : new.going_on ≡ goes_on (file_line line) (text_with old line)
  pub kept : new.text ≡ (if new.going_on then take (length (text_with old line) - 1) (text_with old line)
      else text_with old line)
  pub same_number : new.number ≡ old.number
  pub blank : new.blank ≡ is_blank_line new.text
  pub plain : new.going_on ≡ true → is_comment new.text ≡ false

-- what is kept of it: where the line goes on, all but its last dollar
abbrev pub kept_text : Bool → Bytes → Bytes
kept_text true bytes = take (length bytes - 1) bytes
kept_text false bytes = bytes
