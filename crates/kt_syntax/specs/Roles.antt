-- What lines are to the blocks round them (GNU make manual, "Syntax of Conditionals" and "Defining Multi-Line
-- Variables"), by their kinds alone.
use Rattle.std.specs.Prelude.{Bool, true, false, ◌&&◌, List, [], length, take, map, Option, Some, leb, if◌then◌else◌}
use Rattle.kt_syntax.specs.Prelude.{slice_range, Directive, NumberedRole, Role, Text, mask_of, line_form, past_word}
use Rattle.kt_text.specs.declared.line.Line.{Line}
use Rattle.kt_syntax.specs.declared.form.Directive.TheVariants as word
use Rattle.kt_syntax.specs.declared.role.Role.TheVariants.{Ordinary, Conditional, Else, Endif, Define, Endef}
use Rattle.kt_syntax.specs.Kinds.{Form, directive, block_word, comment_place}

-- the first word of a text that begins with no blank, before its comment
unfoldable pub first_word : Text → Text
first_word text = slice_range text 0 (past_word 0 (take (comment_place text) (mask_of text)))

-- the four words of conditions
abbrev pub opens_conditional : Option Directive → Bool
opens_conditional (Some word.Ifdef) = true
opens_conditional (Some word.Ifndef) = true
opens_conditional (Some word.Ifeq) = true
opens_conditional (Some word.Ifneq) = true
opens_conditional other = false

-- whether a condition follows an `else`: of the text after it only the first word counts (kati's own)
unfoldable pub starts_condition : Text → Bool
starts_condition rest = opens_conditional (block_word (first_word rest))

-- the role of a directive, with the text after it
unfoldable pub role_by_word : Directive → Text → Role
role_by_word word.Ifdef rest = Conditional
role_by_word word.Ifndef rest = Conditional
role_by_word word.Ifeq rest = Conditional
role_by_word word.Ifneq rest = Conditional
role_by_word word.Else rest = Else (starts_condition rest)
role_by_word word.Endif rest = Endif
role_by_word word.Define rest = Define
role_by_word word.Endef rest = Endef
role_by_word word.Include rest = Ordinary
role_by_word word.OptionalInclude rest = Ordinary

-- the role of a line of a kind
unfoldable pub role_of : Form → Role
role_of (directive word rest) = role_by_word word rest
role_of other = Ordinary

-- the bytes of a line, which are none where its place isn't one of the text
abbrev pub line_text : Text → Line → Text
line_text text line =
    if leb line.span.start line.span.end && leb line.span.end (length text)
    then slice_range text line.span.start line.span.end
    else []

-- a line's role and number
abbrev pub numbered_role : Text → Line → NumberedRole
numbered_role text line = record { role = role_of (line_form (line_text text line) line.tab); number = line.number }

-- the roles and numbers of a text's lines
abbrev pub heads_of : Text → List Line → List NumberedRole
heads_of text lines = map (numbered_role text) lines
