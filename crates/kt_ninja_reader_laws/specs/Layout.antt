-- Lines that say nothing, wherever they stand in a file (Ninja manual, "Lexical syntax"; that a blank line ends a block
-- is kati's own).
use Rattle.std.specs.Prelude.{◌≡◌, Bool, true, ◌&&◌, ◌||◌, List, [], ◌∷◌, ◌++◌, Option}
use Rattle.kt_ninja_reader.specs.Prelude.{list_all, Bytes}
use Rattle.kt_ninja_reader.specs.JoinedLines.{is_blank_line, is_comment}
use Rattle.kt_ninja.specs.declared.plan.Plan.{Plan}
use Rattle.std.specs.Result.{result_ok}
use Rattle.kt_ninja_reader_laws.specs.Continued.{AreContinued, ContinuedLine, in_file, kept_of}
use Rattle.kt_ninja_reader.specs.NinjaRead.{begins_part, is_file_byte, ninja_read}

-- the text of a line, with the lines that are joined to it
abbrev pub continued_text : ContinuedLine → Bytes
continued_text line = kept_of (line.fronts ++ line.last ∷ [])

-- a line that a file can have
abbrev pub is_sound_line : ContinuedLine → Bool
is_sound_line line = line.ended && list_all is_file_byte (continued_text line)

-- whether the block above has ended: only comments and blank lines stand before the next line at the margin
abbrev pub has_block_ended : List ContinuedLine → Bool
has_block_ended [] = true
has_block_ended (l ∷ ls) = begins_part (continued_text l) || ((is_comment (continued_text l)
    || is_blank_line (continued_text l)) && has_block_ended ls)

-- the plan that lines of a file say, if they say one
abbrev pub plan_of_lines : List ContinuedLine → Option Plan
plan_of_lines lines = result_ok (ninja_read (in_file lines))

-- a line that changes nothing: with it and without it the file says the same plan, or none
abbrev pub SaysNothing : List ContinuedLine → ContinuedLine → List ContinuedLine → Type 0
SaysNothing front line back = plan_of_lines (front ++ line ∷ back) ≡ plan_of_lines (front ++ back)

-- so does a comment, wherever it stands, and a blank line between statements
pub record LayoutLaw : Type 0 where
  pub comment : (front back : List ContinuedLine) (line : ContinuedLine) → AreContinued (front ++ line ∷ back)
      → is_sound_line line ≡ true → is_comment (continued_text line) ≡ true → SaysNothing front line back
  pub blank : (front back : List ContinuedLine) (line : ContinuedLine) → AreContinued (front ++ line ∷ back)
      → is_sound_line line ≡ true → is_blank_line (continued_text line)
      ≡ true → has_block_ended back ≡ true → SaysNothing front line back
