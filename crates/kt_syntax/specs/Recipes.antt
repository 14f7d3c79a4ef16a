-- The text of a recipe line, from its physical lines (GNU make manual, "Splitting Recipe Lines"; what a continuation
-- becomes is kati's own).
use Rattle.std.specs.Prelude.{ℕ, ◌-◌, ◌==◌, List, [], ◌∷◌, ◌++◌, length, drop, slice_index, if◌then◌else◌}
use Rattle.bstr.specs.Text.{without_terminator}
use Rattle.kt_syntax.specs.Prelude.{Text, trimmed_start, trimmed_end, Edge, Newline, Outside, Inside, inside, mask_of}
use Rattle.kt_text.specs.Lines.{before_backslash, is_continued, newline_pieces}
use Rattle.kt_syntax.specs.declared.recipe.Joint.{Joint}

-- what the newline at the end of a physical line is: its symbol in the mask says whether it is inside a reference
unfoldable pub joint_of : ℕ → Text → Joint
joint_of symbol line = if is_continued line then (if symbol == inside then Inside else Outside) else Newline

-- a physical line without what joins it to the next
abbrev pub content : Joint → Text → Text
content Edge line = line
content Newline line = without_terminator line
content Outside line = before_backslash line
content Inside line = before_backslash line

-- a text without a tab at its start
abbrev pub without_tab : Text → Text
without_tab [] = []
without_tab (byte ∷ text) = if byte == 9 then text else byte ∷ text

-- what is left of a physical line after the joint before it: a continuation takes one tab with it, and inside a
-- reference all blanks
abbrev pub begun : Joint → Text → Text
begun Edge text = text
begun Newline text = text
begun Outside text = without_tab text
begun Inside text = trimmed_start text

-- what is left of a physical line before the joint after it
abbrev pub ended : Joint → Text → Text
ended Inside text = trimmed_end text
ended other text = text

-- the space of a continuation inside a reference; of several with nothing but blanks between them the last has it
abbrev pub space_at_joint : Joint → Joint → Text → Text
space_at_joint Inside Inside [] = []
space_at_joint Inside after text = 32 ∷ []
space_at_joint before after text = []

-- the newline of a line that isn't continued
abbrev pub newline_at_joint : Joint → Text
newline_at_joint Newline = 10 ∷ []
newline_at_joint after = []

-- what a physical line becomes between two joints
unfoldable pub spliced_line : Joint → Joint → Text → Text
spliced_line before after line =
    let text = ended after (begun before (content after line)) in space_at_joint before after text
    ++ (text ++ newline_at_joint after)

-- what physical lines become, with their masks, of which the last has no newline
unfoldable pub recipe_lines : Joint → List ℕ → List Text → Text
recipe_lines before mask [] = []
recipe_lines before mask (line ∷ []) = spliced_line before Edge line
recipe_lines before mask (line ∷ next ∷ lines) =
    let after = joint_of (slice_index mask (length line - 1)) line in
    spliced_line before after line ++ recipe_lines after (drop (length line) mask) (next ∷ lines)

-- the text of a recipe line: a continuation is dropped with one tab after it; inside a reference continuations with the
-- blanks round them are one space
unfoldable pub recipe_of : Text → Text
recipe_of text = recipe_lines Edge (mask_of text) (newline_pieces text)
