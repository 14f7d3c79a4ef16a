-- The kinds of lines (POSIX.1-2024 make, "Makefile Syntax"; GNU make manual, "What Makefiles Contain" and "Splitting
-- Long Lines"): what a line says is what its text says once its continuations are condensed. The order of the tests
-- is kati's own.
use Rattle.std.specs.Prelude.{ℕ, suc, ◌+◌, Bool, false, not, ◌==◌, ◌&&◌, ◌||◌, nat_eq, List, [], ◌∷◌, length, take}
use Rattle.std.specs.Prelude.{drop, codes, Option, Some, None, is_some, if◌then◌else◌}
use Rattle.std.specs.List.{starts_with, prefix_len, slice_range}
use Rattle.std.specs.Str.{bytes_eq}
use Rattle.kt_text.specs.Words.{Text, is_blank}
use Rattle.kt_text.specs.Lines.{condensed_of}
use Rattle.kt_syntax.specs.declared.form.Operator.{Operator}
use Rattle.kt_syntax.specs.declared.form.Operator.TheVariants.{Deferred, Immediate, Escaped, Conditional, Append, Shell}
use Rattle.kt_syntax.specs.declared.form.Directive.{Directive}
use Rattle.kt_syntax.specs.declared.form.Directive.TheVariants.{Ifdef, Ifndef, Ifeq, Ifneq, Else, Endif, Define, Endef}
use Rattle.kt_syntax.specs.declared.form.Directive.TheVariants.{Include, OptionalInclude}
use Rattle.kt_syntax.specs.Mask.{inside, goes_odd, mask_of}

-- a kind of line, with its parts as they stand in the line's text
pub data Form : Type 0 where
  blank : Form
  assignment : (name : Text) (operator : Operator) (value : Text) → Form
  directive : (word : Directive) (rest : Text) → Form
  refused : (word : Text) → Form
  rule : Form

-- how many symbols stand before the comment, which begins at a number sign after an even number of backslashes (kati's
-- own; GNU make manual, "What Makefiles Contain")
unfoldable pub before_comment : Bool → List ℕ → ℕ
before_comment odd [] = 0
before_comment odd (symbol ∷ mask) = if symbol == 35 && not odd then 0
    else suc (before_comment (goes_odd odd symbol) mask)

-- where the comment of a line begins, or the line's end
abbrev pub comment_place : Text → ℕ
comment_place text = before_comment false (mask_of text)

-- the first place from a place on where no blank stands, or the end
abbrev pub past_blanks : ℕ → List ℕ → ℕ
past_blanks from mask = from + prefix_len is_blank (drop from mask)

-- the first place from a place on where a blank stands, or the end
abbrev pub past_word : ℕ → List ℕ → ℕ
past_word from mask = from + prefix_len (λ symbol. not (is_blank symbol)) (drop from mask)

-- the operator that a text begins with, and its length (POSIX.1-2024 make, "Macros"; GNU make manual, "Setting
-- Variables" and, of `+=`, "Appending More Text to Variables")
unfoldable pub operator_of : Text → Option (Operator × ℕ)
operator_of text =
    if starts_with nat_eq text (codes "=") then Some (Deferred, 1)
    else (if starts_with nat_eq text (codes ":=") then Some (Immediate, 2)
    else (if starts_with nat_eq text (codes "::=") then Some (Immediate, 3)
    else (if starts_with nat_eq text (codes ":::=") then Some (Escaped, 4)
    else (if starts_with nat_eq text (codes "?=") then Some (Conditional, 2)
    else (if starts_with nat_eq text (codes "+=") then Some (Append, 2)
    else (if starts_with nat_eq text (codes "!=") then Some (Shell, 2) else None))))))

-- whether the name of an assignment ends here: at a blank or at an operator outside references
abbrev pub ends_name : ℕ → Text → Bool
ends_name symbol text = is_blank symbol || (not (symbol == inside) && is_some (operator_of text))

-- where the name of an assignment ends; a colon that starts no operator ends the test. The mask and the text begin at
-- the place that is given
unfoldable pub name_end : ℕ → List ℕ → Text → Option ℕ
name_end place [] text = Some place
name_end place (symbol ∷ mask) text =
    if ends_name symbol text then Some place
    else (if symbol == 58 then None else name_end (place + 1) mask (drop 1 text))

-- where the parts of an assignment stand: its name up to `name`, and the value from `value` on
pub record Parts : Type 0 where
  pub name : ℕ
  pub operator : Operator
  pub value : ℕ

-- the parts, where an operator of this length stands at a place
abbrev pub parts_at : Text → ℕ → ℕ → Option (Operator × ℕ) → Option Parts
parts_at text name place None = None
parts_at text name place (Some found) = Some (record {
  name = name;
  operator = found.0;
  value = past_blanks (place + found.1) (mask_of text);
})

-- the parts of an assignment, where its name ends at a place; none where no operator follows
abbrev pub parts_after : Text → List ℕ → Option ℕ → Option Parts
parts_after text mask None = None
parts_after text mask (Some name) = parts_at text name (past_blanks name mask)
    (operator_of (drop (past_blanks name mask) text))

-- the parts of an assignment whose name begins at a place of a line, within the mask
unfoldable pub assignment_parts : Text → List ℕ → ℕ → Option Parts
assignment_parts text mask begin = parts_after text mask (name_end begin (drop begin mask) (drop begin text))

-- the words of conditionals and of `define`, which count as such on no line that begins with a tab (kati's own)
unfoldable pub block_word : Text → Option Directive
block_word word =
    if bytes_eq word (codes "ifdef") then Some Ifdef
    else (if bytes_eq word (codes "ifndef") then Some Ifndef
    else (if bytes_eq word (codes "ifeq") then Some Ifeq
    else (if bytes_eq word (codes "ifneq") then Some Ifneq
    else (if bytes_eq word (codes "else") then Some Else
    else (if bytes_eq word (codes "endif") then Some Endif
    else (if bytes_eq word (codes "define") then Some Define
    else (if bytes_eq word (codes "endef") then Some Endef else None)))))))

-- the words of included files (GNU make manual, "Including Other Makefiles")
unfoldable pub include_word : Text → Option Directive
include_word word =
    if bytes_eq word (codes "include") then Some Include
    else (if bytes_eq word (codes "-include") || bytes_eq word (codes "sinclude") then Some OptionalInclude else None)

-- the words that are refused (kati's own)
unfoldable pub is_refused_word : Text → Bool
is_refused_word word =
    bytes_eq word (codes "override") || (bytes_eq word (codes "export") || (bytes_eq word (codes "unexport")
    || (bytes_eq word (codes "undefine") || (bytes_eq word (codes "private") || (bytes_eq word (codes "vpath")
    || (bytes_eq word (codes "load") || bytes_eq word (codes "-load")))))))

-- the directive that a word is
unfoldable pub directive_of : Bool → Text → Option Directive
directive_of tab word = if tab then include_word word else directive_among (block_word word) (include_word word)
  where
    directive_among : Option Directive → Option Directive → Option Directive
    directive_among None other = other
    directive_among (Some first) other = Some first

-- the kind of a line by its first word, with the text after it
abbrev pub kind_by_word : Option Directive → Text → Text → Form
kind_by_word (Some found) word rest = directive found rest
kind_by_word None word rest = if is_refused_word word then refused word else rule

-- the kind of a line that isn't blank and is no assignment; its first word begins at a place
unfoldable pub worded : Bool → Text → List ℕ → ℕ → Form
worded tab text mask begin =
    kind_by_word (directive_of tab (slice_range text begin (past_word begin mask)))
    (slice_range text begin (past_word begin mask))
    (drop (past_blanks (past_word begin mask) (mask_of text)) text)

-- the kind of a line that isn't blank: an assignment if it has the parts of one, or else by its first word
abbrev pub kind_by_parts : Bool → Text → List ℕ → ℕ → Option Parts → Form
kind_by_parts tab text mask begin None = worded tab text mask begin
kind_by_parts tab text mask begin (Some parts) = assignment (slice_range text begin parts.name) parts.operator
    (drop parts.value text)

-- the kind of a line, by the mask of what stands before its comment and the place after its leading blanks
unfoldable pub kind_within : Bool → Text → List ℕ → ℕ → Form
kind_within tab text mask begin =
    if begin == length mask then blank else kind_by_parts tab text mask begin (assignment_parts text mask begin)

-- the kind of a line whose continuations are condensed
unfoldable pub form_of : Text → Bool → Form
form_of text tab =
    kind_within tab text (take (comment_place text) (mask_of text))
    (past_blanks 0 (take (comment_place text) (mask_of text)))

-- the kind of a line as it stands in the file
abbrev pub line_form : Text → Bool → Form
line_form line tab = form_of (condensed_of line) tab
