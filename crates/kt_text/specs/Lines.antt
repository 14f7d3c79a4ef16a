-- The logical lines of a text (POSIX.1-2024 make, "Makefile Syntax"; GNU make manual, "Splitting Long Lines").
use Rattle.std.specs.Prelude.{ℕ, ◌+◌, ◌-◌, ◌%◌, Bool, true, false, ◌==◌, List, [], ◌∷◌, ◌++◌, length, take, count_by}
use Rattle.std.specs.Prelude.{Option, Some, None, slice_index, if◌then◌else◌}
use Rattle.std.specs.List.{list_any, before_first, suffix_len, onto_first, flat_map, concat}
use Rattle.kt_text.specs.Prelude.{lines_of, without_terminator, Line, Text, trimmed_start, trimmed_end}

-- whether the text ends in an odd number of backslashes
abbrev pub is_continued_text : Text → Bool
is_continued_text text = suffix_len (λ byte. byte == 92) text % 2 == 1

-- a physical line, its newline included, is continued where the rest of it ends in an odd number of backslashes;
-- one carriage return before the newline counts to the newline (kati's own)
unfoldable pub is_continued : Text → Bool
is_continued line = is_continued_text (without_terminator line)

-- physical lines grouped to logical ones: each but the last of a group is continued
unfoldable pub groups : List Text → List (List Text)
groups [] = []
groups (line ∷ lines) = if is_continued line then onto_first line (groups lines) else (line ∷ []) ∷ groups lines

-- how much of a text the last physical line of a group keeps: all but its newline with the carriage return before it,
-- and but a last backslash of an odd number of them, which only the last line of the text still has there
unfoldable pub kept_of_last : Text → ℕ
kept_of_last line = length (without_terminator line) - (if is_continued line then 1 else 0)

-- how much of a text a group keeps
unfoldable pub kept_length : List Text → ℕ
kept_length [] = 0
kept_length (line ∷ []) = kept_of_last line
kept_length (line ∷ next ∷ lines) = length line + kept_length (next ∷ lines)

-- whether a group begins with a tab
abbrev pub begins_with_tab : List Text → Bool
begins_with_tab [] = false
begins_with_tab (line ∷ lines) = slice_index line 0 == 9

-- the logical lines of groups of which the first begins at a place of the text and at a physical line's number
unfoldable pub lines_from : ℕ → ℕ → List (List Text) → List Line
lines_from start number [] = []
lines_from start number (group ∷ later) =
    record {
      span = record { start = start; end = start + kept_length group };
      number = number;
      tab = begins_with_tab group;
    } ∷ lines_from (start + length (concat group)) (number + length group) later

-- the logical lines of a text without NUL
unfoldable pub logical_lines_of : Text → List Line
logical_lines_of text = lines_from 0 1 (groups (lines_of text))

-- the number of the physical line of the first NUL, if there is one (kati's own)
unfoldable pub nul_line : Text → Option ℕ
nul_line text =
    if list_any (λ byte. byte == 0) text
    then Some (count_by (λ byte. byte == 10) (before_first (λ byte. byte == 0) text) + 1)
    else None

-- a text cut after each newline; the last piece has none, and may be empty
unfoldable pub newline_pieces : Text → List Text
newline_pieces [] = [] ∷ []
newline_pieces (byte ∷ text) =
    if byte == 10 then (byte ∷ []) ∷ newline_pieces text else onto_first byte (newline_pieces text)

-- whether a physical line has a newline at its end
unfoldable pub is_ended : Text → Bool
is_ended line = slice_index line (length line - 1) == 10

-- the newline of a physical line, if it has one
abbrev pub newline_of : Text → Text
newline_of line = if is_ended line then 10 ∷ [] else []

-- a continued line without its last backslash
abbrev pub before_backslash : Text → Text
before_backslash line = take (length (without_terminator line) - 1) (without_terminator line)

-- what a physical line keeps of its text, by whether it is continued from the line before it and to the line after it
abbrev pub trimmed_line : Bool → Bool → Text → Text
trimmed_line false false line = without_terminator line
trimmed_line false true line = trimmed_end (before_backslash line)
trimmed_line true true line = trimmed_end (trimmed_start (before_backslash line))
trimmed_line true false line = trimmed_start (without_terminator line)

-- the space of the continuation before a physical line; of several continuations with only blanks between them, the
-- last has it
abbrev pub space_before : Bool → Bool → Text → Text
space_before false continues text = []
space_before true false text = 32 ∷ []
space_before true true [] = []
space_before true true (byte ∷ text) = 32 ∷ []

-- the newline of a physical line, where it isn't continued
abbrev pub newline_after : Bool → Text → Text
newline_after true line = []
newline_after false line = newline_of line

-- what a physical line becomes: each continuation, with the blanks on both sides, is one space
unfoldable pub condensed_line : Bool → Bool → Text → Text
condensed_line continued continues line =
    let text = trimmed_line continued continues line in
    space_before continued continues text ++ (text ++ newline_after continues line)

-- what the physical lines of a group become after its first
unfoldable pub condensed_rest : List Text → Text
condensed_rest [] = []
condensed_rest (line ∷ []) = condensed_line true false line
condensed_rest (line ∷ next ∷ lines) = condensed_line true true line ++ condensed_rest (next ∷ lines)

-- what the physical lines of a group become
unfoldable pub condensed_group : List Text → Text
condensed_group [] = []
condensed_group (line ∷ []) = condensed_line false false line
condensed_group (line ∷ next ∷ lines) = condensed_line false true line ++ condensed_rest (next ∷ lines)

-- a text with its continuations condensed (GNU make manual, "Splitting Long Lines"); carriage returns before newlines
-- go. A continuation at the end of the text is one too: an empty piece follows it (kati's own)
unfoldable pub condensed_of : Text → Text
condensed_of text = flat_map condensed_group (groups (newline_pieces text))
